-- Numbers that are changed twice.
use Rattle.std.proofs.Common.{◌≡◌, ℤ, ◌+ℤ◌, pos, negsuc, [], ◌∷◌, Option, Some, None, option_map, option_and_then, Bool, true, false, int_lt, refl, sym, ap, ◌∙◌}
use Rattle.std.specs.Prelude.{if◌then◌else◌}
use Rattle.std.proofs.Math.IntN.{+ℤ_comm, +ℤ_assoc}
use Rattle.sdb_value.specs.Value.{Value, whole}
use Rattle.sdb_value.specs.FromJson.{checked_whole}
use Rattle.sdb_component.specs.Plain.{na}
use Rattle.sdb_apply.specs.Apply.{apply_act}
use Rattle.sdb_transform.proofs.ConvergeActs.{apply_acts}

in_both : (b c : Bool) (z : ℤ) (v : Value) → option_map whole (if b then None else (if c then None else Some z)) ≡ Some v → (if b then None else (if c then None else Some z)) ≡ Some z
in_both true c z v e = cc
in_both false true z v e = cc
in_both false false z v e = refl

in_itself : (z : ℤ) (v : Value) → option_map whole (checked_whole z) ≡ Some v → checked_whole z ≡ Some z
in_itself z v e = in_both (int_lt z (negsuc 9007199254740990)) (int_lt (pos 9007199254740991) z) z v e

and_then_effects_nil : (o : Option Value) → option_and_then (apply_acts []) o ≡ o
and_then_effects_nil None = refl
and_then_effects_nil (Some v) = refl

two_sums : (n x y : ℤ) (u : Value) → apply_act (na x) (whole n) ≡ Some u → apply_acts (na x ∷ na y ∷ []) (whole n) ≡ option_map whole (checked_whole ((n +ℤ x) +ℤ y))
two_sums n x y u e =
    ap (λ o. option_and_then (apply_acts (na y ∷ [])) (option_map whole o)) (in_itself (n +ℤ x) u e)
    ∙ and_then_effects_nil (option_map whole (checked_whole ((n +ℤ x) +ℤ y)))

add_swap : (n x y : ℤ) → (n +ℤ y) +ℤ x ≡ (n +ℤ x) +ℤ y
add_swap n x y = +ℤ_assoc n y x ∙ ap (λ z. n +ℤ z) (+ℤ_comm y x) ∙ sym (+ℤ_assoc n x y)

pub numbers_meet : (n x y : ℤ) (u v : Value) → apply_act (na x) (whole n) ≡ Some u → apply_act (na y) (whole n) ≡ Some v
    → (apply_acts (na x ∷ na y ∷ []) (whole n) ≡ option_map whole (checked_whole ((n +ℤ x) +ℤ y)))
    × (apply_acts (na y ∷ na x ∷ []) (whole n) ≡ option_map whole (checked_whole ((n +ℤ x) +ℤ y)))
numbers_meet n x y u v e f = (two_sums n x y u e, two_sums n y x v f ∙ ap (λ z. option_map whole (checked_whole z)) (add_swap n x y))
