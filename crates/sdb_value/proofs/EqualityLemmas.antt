-- Lists with equal views.
use Rattle.std.proofs.Common.{◌≡◌, ℕ, ◌<◌, List, [], ◌∷◌, length, map, slice_index_or, refl, sym, ap, ◌∙◌}
use Rattle.std.proofs.lemmas.List.{get_or-map}
use Rattle.sdb_value.specs.Value.{Value, Items, no_items, item}
use Rattle.sdb_value.specs.View.{items_from_list}

abbrev values_of : Items → List Value
values_of no_items = []
values_of (item d ds) = d ∷ values_of ds

values_of_items : (ds : List Value) → values_of (items_from_list ds) ≡ ds
values_of_items [] = refl
values_of_items (d ∷ ds) = ap (λ l. d ∷ l) (values_of_items ds)

-- items at the same index have equal views
pub alike_at : {A B : Type 0} (f : A → B) (xs ys : List A) (i : ℕ) (x y : A) → i < length xs → i < length ys
    → map f xs ≡ map f ys → f (slice_index_or xs i x) ≡ f (slice_index_or ys i y)
alike_at f xs ys i x y below within h =
    sym (get_or-map f xs i x (f x) below) ∙ ap (λ l. slice_index_or l i (f x)) h ∙ get_or-map f ys i y (f x) within
