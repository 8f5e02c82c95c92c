-- A list in which one item is replaced.
use Rattle.std.proofs.Common.{◌≡◌, ◌≢◌, ℕ, zero, suc, ◌<◌, ◌≤◌, ◌⊎◌, inl, inr, List, [], ◌∷◌, ◌++◌, length, slice_index_or, slice_set, slice_get, get_or, Some, None, refl, sym, ap, subst, ◌∙◌, arith}
use Rattle.std.proofs.Math.ListN.{length-set}
use Rattle.std.proofs.lemmas.List.{get_or-set_same, get_or-set_other}
use Rattle.std.proofs.lemmas.Option.{slice_get_cases, slice_get-get_or, slice_get_past, slice_get_read}
use Rattle.sdb_growlock.specs.LockRule.{ForEach}

module _ {A : Type 0} (xs : List A) (i : ℕ) (x y : A) (lt : i < length xs) (is : x ≡ slice_index_or xs i x) where
  pub replaced_item : slice_get xs i ≡ Some x
  replaced_item = slice_get_read xs (length xs) i x refl lt is

  pub item_here : slice_get (slice_set xs i y) i ≡ Some y
  item_here = let e = length-set xs i y in slice_get-get_or (slice_set xs i y) i y (omega (arith, e, lt)) ∙ ap Some (get_or-set_same xs i y y lt)

  item_or_none : (j : ℕ) → j ≢ i → ((z : A) × (j < length xs) × (slice_get xs j ≡ Some z) × (get_or xs j z ≡ z)) ⊎ ((length xs ≤ j) × (slice_get xs j ≡ None))
      → slice_get (slice_set xs i y) j ≡ slice_get xs j
  item_or_none j ne (inl h) =
      let e = length-set xs i y in let below = h.1 in
      slice_get-get_or (slice_set xs i y) j h.0 (omega (arith, e, below)) ∙ ap Some (get_or-set_other xs i j y h.0 ne ∙ h.3) ∙ sym h.2
  item_or_none j ne (inr h) =
      let e = length-set xs i y in let past = h.0 in
      slice_get_past (slice_set xs i y) j (omega (arith, e, past)) ∙ sym h.1

  pub item_elsewhere : (j : ℕ) → j ≢ i → slice_get (slice_set xs i y) j ≡ slice_get xs j
  item_elsewhere j ne = item_or_none j ne ((slice_get_cases xs j).1)

-- a property of each item, by its index
pub for_each_item : {A : Type 0} (P : A → Type 0) (xs : List A) → ((i : ℕ) (x : A) → slice_get xs i ≡ Some x → P x) → ForEach P xs
for_each_item P [] h = tt
for_each_item P (x ∷ xs) h = (h 0 x refl, for_each_item P xs (λ i y e. h (suc i) y e))

pub item_of_each : {A : Type 0} (P : A → Type 0) (xs : List A) → ForEach P xs → (i : ℕ) (x : A) → slice_get xs i ≡ Some x → P x
item_of_each P [] h i x e = cc
item_of_each P (y ∷ ys) h zero x e = let g : y ≡ x = cc in subst P g h.0
item_of_each P (y ∷ ys) h (suc i) x e = item_of_each P ys h.1 i x e

item_below_or : {A : Type 0} (xs : List A) (i n : ℕ) → length xs ≡ n → i < n → ((z : A) × (i < length xs) × (slice_get xs i ≡ Some z) × (get_or xs i z ≡ z)) ⊎ ((length xs ≤ i) × (slice_get xs i ≡ None))
    → (x : A) × (slice_get xs i ≡ Some x) × (slice_index_or xs i x ≡ x)
item_below_or xs i n e lt (inl h) = (h.0, h.2, h.3)
item_below_or xs i n e lt (inr h) = let past = h.0 in absurd (omega (arith, past, e, lt))

-- the item at an index
pub item_below : {A : Type 0} (xs : List A) (i n : ℕ) → length xs ≡ n → i < n → (x : A) × (slice_get xs i ≡ Some x) × (slice_index_or xs i x ≡ x)
item_below xs i n e lt = item_below_or xs i n e lt ((slice_get_cases xs i).1)

pub for_each_of_push : {A : Type 0} (P : A → Type 0) (xs : List A) (x : A) → ForEach P xs → P x → ForEach P (xs ++ x ∷ [])
for_each_of_push P [] x h here = (here, tt)
for_each_of_push P (y ∷ xs) x h here = (h.0, for_each_of_push P xs x h.1 here)
