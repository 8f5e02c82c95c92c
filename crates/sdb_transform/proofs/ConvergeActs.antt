-- Acts at one container, applied in sequence, and two concurrent ones.
use Rattle.std.proofs.Common.{◌≡◌, ◌+ℤ◌, List, [], ◌∷◌, Option, Some, option_and_then, ap, ◌∙◌}
use Rattle.sdb_value.specs.Value.{Value}
use Rattle.sdb_component.specs.Plain.{PlainAct, na}
use Rattle.sdb_apply.specs.Apply.{map_number, apply_act}
use Rattle.sdb_transform.specs.declared.side.Side.{Side}
use Rattle.sdb_transform.specs.Transform.{transform_act}

abbrev pub apply_acts : List PlainAct → Value → Option Value
apply_acts [] u = Some u
apply_acts (a ∷ rest) u = option_and_then (apply_acts rest) (apply_act a u)

-- the act without the range of sums
abbrev pub apply_unchecked : PlainAct → Value → Option Value
apply_unchecked (na x) = map_number (λ n. Some (n +ℤ x))
apply_unchecked x = apply_act x

-- both orders make one value of u; s is the side of a, and t that of b
pub record ActsConverge (s t : Side) (u : Value) (a b : PlainAct) : Type 0 where
  pub left : List PlainAct
  pub right : List PlainAct
  pub result : Value
  pub on_left : transform_act s a b ≡ Some left
  pub on_right : transform_act t b a ≡ Some right
  pub by_left : apply_acts (a ∷ right) u ≡ Some result
  pub by_right : apply_acts (b ∷ left) u ≡ Some result

-- one act, followed by one or none
pub then_one : (a b : PlainAct) (u v e : Value) → apply_act a u ≡ Some v → apply_act b v ≡ Some e → apply_acts (a ∷ b ∷ []) u ≡ Some e
then_one a b u v e h k = ap (option_and_then (apply_acts (b ∷ []))) h ∙ ap (option_and_then (apply_acts [])) k

pub then_none : (a : PlainAct) (u e : Value) → apply_act a u ≡ Some e → apply_acts (a ∷ []) u ≡ Some e
then_none a u e h = ap (option_and_then (apply_acts [])) h

-- for the exchanged sides
pub acts_converge_symm : (s t : Side) (u : Value) (a b : PlainAct) → ActsConverge s t u a b → ActsConverge t s u b a
acts_converge_symm s t u a b m = record {
  left = m.right;
  right = m.left;
  result = m.result;
  on_left = m.on_right;
  on_right = m.on_left;
  by_left = m.by_right;
  by_right = m.by_left;
}
