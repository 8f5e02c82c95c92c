-- Removed values after a change inside them.
use Rattle.std.proofs.Common.{◌≡◌, List, [], ◌∷◌, ◌++◌, Option, Some, None, option_map, option_and_then, refl, sym, ap, ◌∙◌, append_assoc}
use Rattle.std.specs.Option.{option_map_or}
use Rattle.sdb_value.specs.Value.{Value, PlainStep, value_at, with_value_at}
use Rattle.sdb_value.specs.laws.PathLaws.{at_with}
use Rattle.sdb_component.specs.Plain.{PlainAct, na, si, sd, li, ld, lr, oi, od, or, PlainComponent}
use Rattle.sdb_apply.specs.Apply.{apply_one}
use Rattle.sdb_apply.proofs.BelowLemmas.{does_path}
use Rattle.sdb_transform.specs.declared.side.Side.{Side}
use Rattle.sdb_transform.specs.Transform.{strip_prefix, removed_step, map_removed, updated_value, component_at, transform, transform_below, update_removed, strip_removed_path}
use Rattle.sdb_transform.specs.ConvergenceLaws.{removed_value}
use Rattle.sdb_transform.proofs.ConvergenceLemmas.{after_prefix, after_rest}

removed_with : (f : Value → Value) (a : PlainAct) → removed_value (map_removed f a) ≡ option_map f (removed_value a)
removed_with f (na a0) = refl
removed_with f (si a0 a1) = refl
removed_with f (sd a0 a1) = refl
removed_with f (li a0 a1) = refl
removed_with f (ld a0 a1) = refl
removed_with f (lr a0 a1 a2) = refl
removed_with f (oi a0 a1) = refl
removed_with f (od a0 a1) = refl
removed_with f (or a0 a1 a2) = refl

-- a path doesn't begin with a longer one
not_behind : (p : List PlainStep) (w : PlainStep) (rest : List PlainStep) → strip_prefix (p ++ w ∷ rest) p ≡ None
not_behind [] w rest = refl
not_behind (s ∷ p) w rest = after_prefix s (p ++ w ∷ rest) p ∙ not_behind p w rest

under_is : (c : PlainComponent) (w : PlainStep) (path rest : List PlainStep) → removed_step c.act ≡ Some w → path ≡ c.path ++ w ∷ rest → strip_removed_path c path ≡ Some rest
under_is c w path rest e is =
    ap (option_and_then (λ s. option_and_then (strip_prefix (s ∷ [])) (strip_prefix c.path path))) e
    ∙ ap (option_and_then (strip_prefix (w ∷ []))) (ap (strip_prefix c.path) is ∙ after_rest c.path (w ∷ rest))
    ∙ after_rest (w ∷ []) rest

-- case 1 of the transform
under_transform : (side : Side) (c o : PlainComponent) (w : PlainStep) (rest : List PlainStep) → removed_step c.act ≡ Some w → o.path ≡ c.path ++ w ∷ rest
    → transform side c o ≡ Some (component_at c.path (map_removed (updated_value (component_at rest o.act)) c.act) ∷ [])
under_transform side c o w rest e is =
    ap (λ r. option_map_or (transform_below side c o) r (Some (update_removed c o (strip_removed_path c o.path)))) (ap (λ l. strip_prefix l c.path) is ∙ not_behind c.path w rest)
    ∙ ap (λ r. Some (update_removed c o r)) (under_is c w o.path rest e is)

map_some_elim : {A B : Type 0} (f : A → B) (o : Option A) (y : B) → option_map f o ≡ Some y → (x : A) × (o ≡ Some x) × (f x ≡ y)
map_some_elim f None y e = cc
map_some_elim f (Some x) y e = (x, refl, cc)

-- the value at the path after a change inside it
stands_after : (d e x : Value) (o : PlainComponent) (p rest : List PlainStep) → value_at d p ≡ Some x → o.path ≡ p ++ rest → apply_one o d ≡ Some e
    → value_at e p ≡ Some (updated_value (component_at rest o.act) x)
stands_after d e x o p rest found is done =
    let h = map_some_elim (with_value_at d p) (apply_one (component_at rest o.act) x) e (sym (does_path p rest o.path o d x found is) ∙ done) in
    ap (λ v. value_at v p) (sym h.2) ∙ at_with d x h.0 p found ∙ ap Some (sym (ap (λ r. option_map_or (λ y. y) r x) h.1))

pub removal_stands : (side : Side) (d e x : Value) (c o : PlainComponent) (w : PlainStep) (rest : List PlainStep) → removed_step c.act ≡ Some w → removed_value c.act ≡ Some x
    → value_at d (c.path ++ w ∷ []) ≡ Some x → o.path ≡ c.path ++ w ∷ rest → apply_one o d ≡ Some e
    → (after : PlainComponent) × (transform side c o ≡ Some (after ∷ [])) × (removed_value after.act ≡ value_at e (c.path ++ w ∷ []))
removal_stands side d e x c o w rest named is found path done =
    let up = updated_value (component_at rest o.act) in
    let stands = stands_after d e x o (c.path ++ w ∷ []) rest found (path ∙ sym (append_assoc c.path (w ∷ []) rest)) done in (
      component_at c.path (map_removed up c.act),
      under_transform side c o w rest named path,
      removed_with up c.act ∙ ap (option_map up) is ∙ sym stands,
    )
