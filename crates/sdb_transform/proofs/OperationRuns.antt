-- Operations applied without the range of sums, each component made for the result of those before it.
use Rattle.std.proofs.Common.{◌≡◌, ℤ, ◌+ℤ◌, pos, negsuc, int_lt, Bool, true, false, List, [], ◌∷◌, ◌++◌, map, Some, None, option_map, option_and_then, ◌⊎◌, inl, inr, refl, sym, ap, ◌∙◌, subst}
use Rattle.std.specs.Prelude.{if◌then◌else◌}
use Rattle.sdb_value.specs.Value.{Value, whole, PlainStep, value_at, with_value_at}
use Rattle.sdb_value.specs.laws.PathLaws.{at_append, with_append, at_with, with_with}
use Rattle.sdb_value.specs.laws.ValueLaws.{with_same}
use Rattle.sdb_value.specs.FromJson.{checked_whole}
use Rattle.sdb_component.specs.Plain.{PlainAct, na, si, sd, li, ld, lr, oi, od, or, PlainComponent}
use Rattle.sdb_apply.specs.Apply.{apply_act, apply_one, apply}
use Rattle.sdb_apply.specs.ApplyLaws.{with_path_prefix}
use Rattle.sdb_apply.proofs.ChangeLemmas.{has_effect, does_is}
use Rattle.sdb_transform.specs.Transform.{component_at}
use Rattle.sdb_transform.specs.Convergence.{HasExpectedKey, HasValidTexts, WellMade}
use Rattle.sdb_transform.specs.OperationConvergence.{InsertsWellFormedValue, HasValidParts, HaveValidParts, AreWellMade, AreMadeFor, SomeSumLeavesRange}
use Rattle.sdb_transform.proofs.ConvergeActs.{apply_unchecked}
use Rattle.sdb_transform.proofs.FormedValues.{IsFormed, value_formed, written_formed, applied_formed}

-- ---- one act, one component, several of them

-- the act is made for u and turns it into v
pub record ActRun (x : PlainAct) (u v : Value) : Type 0 where
  pub changed : apply_unchecked x u ≡ Some v
  pub key : HasExpectedKey x u
  pub texts : HasValidTexts x
  pub inserts : InsertsWellFormedValue x

-- the component is made for d and turns it into e
pub record ComponentRun (c : PlainComponent) (d e : Value) : Type 0 where
  pub before : Value
  pub after : Value
  pub found : value_at d c.path ≡ Some before
  pub act : ActRun c.act before after
  pub written : with_value_at d c.path after ≡ e

abbrev pub ActsRun : List PlainAct → Value → Value → Type 0
ActsRun [] u v = u ≡ v
ActsRun (x ∷ xs) u v = (w : Value) × ActRun x u w × ActsRun xs w v

abbrev pub OperationRun : List PlainComponent → Value → Value → Type 0
OperationRun [] d e = d ≡ e
OperationRun (c ∷ cs) d e = (f : Value) × ComponentRun c d f × OperationRun cs f e

pub run_append : (cs more : List PlainComponent) (d e f : Value) → OperationRun cs d e → OperationRun more e f → OperationRun (cs ++ more) d f
run_append [] more d e f h k = subst (λ x. OperationRun more x f) (sym h) k
run_append (c ∷ cs) more d e f h k = (h.0, h.1, run_append cs more h.0 e f h.2 k)

pub component_formed : (c : PlainComponent) (d e : Value) → IsFormed d → ComponentRun c d e → IsFormed e
component_formed c d e w r =
    let h = applied_formed c.act r.before r.after (value_formed c.path d r.before w r.found) r.act.texts r.act.inserts r.act.changed in
    subst IsFormed r.written (written_formed c.path d r.after w h)

pub run_formed : (cs : List PlainComponent) (d e : Value) → IsFormed d → OperationRun cs d e → IsFormed e
run_formed [] d e w h = subst IsFormed h w
run_formed (c ∷ cs) d e w h = run_formed cs h.0 e (component_formed c d h.0 w h.1) h.2

-- ---- inside a path

pub acts_at_root : (xs : List PlainAct) (u v : Value) → ActsRun xs u v → OperationRun (map (component_at []) xs) u v
acts_at_root [] u v h = h
acts_at_root (x ∷ xs) u v h = (h.0, record { before = u; after = h.0; found = refl; act = h.1; written = refl }, acts_at_root xs h.0 v h.2)

pub component_under : (p : List PlainStep) (c : PlainComponent) (d u v : Value) → value_at d p ≡ Some u → ComponentRun c u v → ComponentRun (with_path_prefix p c) d (with_value_at d p v)
component_under p c d u v is r = record {
  before = r.before;
  after = r.after;
  found = at_append d p c.path ∙ ap (option_and_then (λ x. value_at x c.path)) is ∙ r.found;
  act = r.act;
  written = with_append d u r.after p c.path is ∙ ap (with_value_at d p) r.written;
}

pub run_under : (p : List PlainStep) (cs : List PlainComponent) (d u v : Value) → value_at d p ≡ Some u → OperationRun cs u v → OperationRun (map (with_path_prefix p) cs) d (with_value_at d p v)
run_under p [] d u v is h = sym (with_same p d u is) ∙ ap (with_value_at d p) h
run_under p (c ∷ cs) d u v is h =
    let e = with_value_at d p h.0 in
    let next = run_under p cs e h.0 v (at_with d u h.0 p is) h.2 in
    (e, component_under p c d u h.0 is h.1, subst (OperationRun (map (with_path_prefix p) cs) e) (with_with d u h.0 v p is) next)

-- ---- with the range of sums

whole_if : (a b : Bool) (z : ℤ) (v : Value) → option_map whole (if a then None else (if b then None else Some z)) ≡ Some v → whole z ≡ v
whole_if true b z v e = cc
whole_if false true z v e = cc
whole_if false false z v e = cc

-- what applies also applies without the range
pub unchecked_of : (x : PlainAct) (u v : Value) → apply_act x u ≡ Some v → apply_unchecked x u ≡ Some v
unchecked_of (na x) (whole n) v e = ap Some (whole_if (int_lt (n +ℤ x) (negsuc 9007199254740990)) (int_lt (pos 9007199254740991) (n +ℤ x)) (n +ℤ x) v e)
unchecked_of (na x) u v e = cc
unchecked_of (si p s) u v e = e
unchecked_of (sd p s) u v e = e
unchecked_of (li i y) u v e = e
unchecked_of (ld i y) u v e = e
unchecked_of (lr i y z) u v e = e
unchecked_of (oi k y) u v e = e
unchecked_of (od k y) u v e = e
unchecked_of (or k y z) u v e = e

-- the act adds to the number u, and the sum leaves the range
record ActOverflows (x : PlainAct) (u : Value) : Type 0 where
  pub number : ℤ
  pub y : ℤ
  pub adds : x ≡ na y
  pub is : u ≡ whole number
  pub leaves : checked_whole (number +ℤ y) ≡ None

sum_checked : (a b : Bool) (n x : ℤ) (v : Value) → checked_whole (n +ℤ x) ≡ (if a then None else (if b then None else Some (n +ℤ x))) → Some (whole (n +ℤ x)) ≡ Some v
    → (apply_act (na x) (whole n) ≡ Some v) ⊎ ActOverflows (na x) (whole n)
sum_checked true b n x v e h = inr (record { number = n; y = x; adds = refl; is = refl; leaves = e })
sum_checked false true n x v e h = inr (record { number = n; y = x; adds = refl; is = refl; leaves = e })
sum_checked false false n x v e h = inl (ap (option_map whole) e ∙ h)

checked_of : (x : PlainAct) (u v : Value) → apply_unchecked x u ≡ Some v → (apply_act x u ≡ Some v) ⊎ ActOverflows x u
checked_of (na x) (whole n) v e = sum_checked (int_lt (n +ℤ x) (negsuc 9007199254740990)) (int_lt (pos 9007199254740991) (n +ℤ x)) n x v refl e
checked_of (na x) u v e = cc
checked_of (si p s) u v e = inl e
checked_of (sd p s) u v e = inl e
checked_of (li i y) u v e = inl e
checked_of (ld i y) u v e = inl e
checked_of (lr i y z) u v e = inl e
checked_of (oi k y) u v e = inl e
checked_of (od k y) u v e = inl e
checked_of (or k y z) u v e = inl e

same_value : (a b : Value) → Some a ≡ Some b → a ≡ b
same_value a b e = cc

run_of_made : (c : PlainComponent) (d : Value) (w : WellMade c d) → HasValidParts c.act → ComponentRun c d w.result
run_of_made c d w p =
    let goes = sym (ap (option_and_then (λ u. option_map (with_value_at d c.path) (apply_act c.act u))) w.found) ∙ w.accepted in
    let e = has_effect (apply_act c.act w.position) (with_value_at d c.path) w.result goes in
    record {
      before = w.position;
      after = e.0;
      found = w.found;
      act = record { changed = unchecked_of c.act w.position e.0 e.1; key = w.key; texts = p.0; inserts = p.1 };
      written = same_value (with_value_at d c.path e.0) w.result (sym (ap (option_map (with_value_at d c.path)) e.1) ∙ goes);
    }

-- an operation made for d, and its result
pub record MadeRun (cs : List PlainComponent) (d : Value) : Type 0 where
  pub result : Value
  pub applied : apply cs d ≡ Some result
  pub run : OperationRun cs d result

run_of_parts : (cs : List PlainComponent) (d : Value) → AreWellMade cs d → HaveValidParts cs → MadeRun cs d
run_of_parts [] d h p = record { result = d; applied = refl; run = refl }
run_of_parts (c ∷ cs) d h p =
    let f = h.0.result in
    let r = run_of_parts cs f h.1 p.1 in
    record { result = r.result; applied = ap (option_and_then (apply cs)) h.0.accepted ∙ r.applied; run = (f, run_of_made c d h.0 p.0, r.run) }

pub run_of : (cs : List PlainComponent) (d : Value) → AreMadeFor cs d → MadeRun cs d
run_of cs d h = run_of_parts cs d h.0 h.1

-- ---- back to the range: made for d, or a sum leaves the range

pub record MadeResult (cs : List PlainComponent) (d e : Value) : Type 0 where
  pub made : AreMadeFor cs d
  pub applied : apply cs d ≡ Some e

abbrev made_here : (c : PlainComponent) (d e : Value) (r : ComponentRun c d e) → apply_act c.act r.before ≡ Some r.after → WellMade c d
made_here c d e r h = record { position = r.before; result = e; found = r.found; accepted = does_is c d r.before r.after r.found h ∙ ap Some r.written; key = r.act.key }

overflow_here : (c : PlainComponent) (cs : List PlainComponent) (d e : Value) (r : ComponentRun c d e) → ActOverflows c.act r.before → SomeSumLeavesRange (c ∷ cs) d
overflow_here c cs d e r h = record {
  prefix = [];
  component = c;
  rest = cs;
  before = d;
  parts = refl;
  applied = refl;
  sum = record { number = h.number; x = h.y; adds = h.adds; found = r.found ∙ ap Some h.is; leaves = h.leaves };
}

overflow_later : (c : PlainComponent) (cs : List PlainComponent) (d e : Value) → apply_one c d ≡ Some e → SomeSumLeavesRange cs e → SomeSumLeavesRange (c ∷ cs) d
overflow_later c cs d e h o = record {
  prefix = c ∷ o.prefix;
  component = o.component;
  rest = o.rest;
  before = o.before;
  parts = ap (λ l. c ∷ l) o.parts;
  applied = ap (option_and_then (apply o.prefix)) h ∙ o.applied;
  sum = o.sum;
}

abbrev pub MadeOrOverflows : List PlainComponent → Value → Value → Type 0
MadeOrOverflows cs d e = MadeResult cs d e ⊎ SomeSumLeavesRange cs d

then_made : (c : PlainComponent) (cs : List PlainComponent) (d f e : Value) (r : ComponentRun c d f) → apply_act c.act r.before ≡ Some r.after → MadeOrOverflows cs f e → MadeOrOverflows (c ∷ cs) d e
then_made c cs d f e r h (inl m) =
    let accepted = does_is c d r.before r.after r.found h ∙ ap Some r.written in
    inl (record { made = ((made_here c d f r h, m.made.0), ((r.act.texts, r.act.inserts), m.made.1)); applied = ap (option_and_then (apply cs)) accepted ∙ m.applied })
then_made c cs d f e r h (inr o) = inr (overflow_later c cs d f (does_is c d r.before r.after r.found h ∙ ap Some r.written) o)

at_component : (c : PlainComponent) (cs : List PlainComponent) (d f e : Value) (r : ComponentRun c d f) → MadeOrOverflows cs f e
    → (apply_act c.act r.before ≡ Some r.after) ⊎ ActOverflows c.act r.before → MadeOrOverflows (c ∷ cs) d e
at_component c cs d f e r below (inl k) = then_made c cs d f e r k below
at_component c cs d f e r below (inr o) = inr (overflow_here c cs d f r o)

pub made_or_overflows : (cs : List PlainComponent) (d e : Value) → OperationRun cs d e → MadeOrOverflows cs d e
made_or_overflows [] d e h = inl (record { made = (tt, tt); applied = ap Some h })
made_or_overflows (c ∷ cs) d e h = at_component c cs d h.0 e h.1 (made_or_overflows cs h.0 e h.2) (checked_of c.act h.1.before h.1.after h.1.act.changed)
