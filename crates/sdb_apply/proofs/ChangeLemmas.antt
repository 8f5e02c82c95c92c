-- Changes in sequence: at two paths, and inside one.
use Rattle.std.proofs.Common.{◌≡◌, List, [], ◌∷◌, ◌++◌, map, Option, Some, None, option_map, option_and_then, refl, sym, ap, ◌∙◌}
use Rattle.sdb_value.specs.Value.{Value, PlainStep, value_at, with_value_at}
use Rattle.sdb_value.specs.laws.PathLaws.{at_with}
use Rattle.sdb_value.specs.laws.ValueLaws.{with_same}
use Rattle.sdb_value.specs.Disjoint.{AreDisjointPaths}
use Rattle.sdb_value.proofs.DisjointLemmas.{writes_commute}
use Rattle.sdb_component.specs.Plain.{PlainAct, PlainComponent}
use Rattle.sdb_apply.specs.Apply.{apply_act, apply_one, apply}
use Rattle.sdb_apply.specs.ApplyLaws.{with_path_prefix}
use Rattle.sdb_apply.proofs.BelowLemmas.{does_path, under_then}

same_value : (a b : Value) → Some a ≡ Some b → a ≡ b
same_value a b e = cc

pub one_result : (c : PlainComponent) (d e f : Value) → apply_one c d ≡ Some e → apply_one c d ≡ Some f → e ≡ f
one_result c d e f h k = same_value e f (sym h ∙ k)

-- the result of an applicable act
pub has_effect : (o : Option Value) (f : Value → Value) (r : Value) → option_map f o ≡ Some r → (v : Value) × (o ≡ Some v)
has_effect None f r e = cc
has_effect (Some v) f r e = (v, refl)

-- the effect of a component, by the value before and after at its path
pub does_is : (c : PlainComponent) (d u v : Value) → value_at d c.path ≡ Some u → apply_act c.act u ≡ Some v → apply_one c d ≡ Some (with_value_at d c.path v)
does_is c d u v e f = ap (option_and_then (λ u. option_map (with_value_at d c.path) (apply_act c.act u))) e ∙ ap (option_map (with_value_at d c.path)) f

does_found : (p : List PlainStep) (x : PlainAct) (d e : Value) (o : Option Value) → value_at d p ≡ o → option_and_then (λ u. option_map (with_value_at d p) (apply_act x u)) o ≡ Some e
    → (u : Value) × (v : Value) × (value_at d p ≡ Some u) × (apply_act x u ≡ Some v) × (e ≡ with_value_at d p v)
does_found p x d e None h k = cc
does_found p x d e (Some u) h k =
    let f = has_effect (apply_act x u) (with_value_at d p) e k in
    let g : Some (with_value_at d p f.0) ≡ Some e = sym (ap (option_map (with_value_at d p)) f.1) ∙ k in
    (u, f.0, h, f.1, sym (same_value (with_value_at d p f.0) e g))

pub changes_apart : (a b : PlainComponent) (d e f : Value) → AreDisjointPaths a.path b.path → apply_one a d ≡ Some e → apply_one b d ≡ Some f
    → (g : Value) × (apply_one b e ≡ Some g) × (apply_one a f ≡ Some g)
changes_apart a b d e f h k l =
    let p = a.path in
    let q = b.path in
    let x = does_found p a.act d e (value_at d p) refl k in
    let y = does_found q b.act d f (value_at d q) refl l in
    let m = writes_commute p q d x.1 y.1 x.0 y.0 h x.2 y.2 in
    let n = writes_commute q p d y.1 x.1 y.0 x.0 (record { not_prefix = h.not_extension; not_extension = h.not_prefix }) y.2 x.2 in (
      with_value_at (with_value_at d p x.1) q y.1,
      ap (apply_one b) x.4 ∙ does_is b (with_value_at d p x.1) y.0 y.1 m.stays y.3,
      ap (apply_one a) y.4 ∙ does_is a (with_value_at d q y.1) x.0 x.1 n.stays x.3 ∙ ap Some n.same,
    )

pub changes_under : (p : List PlainStep) (cs : List PlainComponent) (d u : Value) → value_at d p ≡ Some u
    → apply (map (with_path_prefix p) cs) d ≡ option_map (with_value_at d p) (apply cs u)
changes_under p [] d u found = ap Some (sym (with_same p d u found))
changes_under p (c ∷ cs) d u found =
    ap (option_and_then (apply (map (with_path_prefix p) cs))) (does_path p c.path (p ++ c.path) (with_path_prefix p c) d u found refl)
    ∙ under_then (apply_one c u) p (map (with_path_prefix p) cs) cs d u found (λ v. changes_under p cs (with_value_at d p v) v (at_with d u v p found))
