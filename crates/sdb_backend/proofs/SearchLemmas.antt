-- The result of a binary search for a number.
use Rattle.std.proofs.Common.{◌≡◌, ℕ, ◌<◌, ◌≤◌, List, [], ◌∷◌, length, map, slice_index_or, Contains, Result, Ok, Err, Bool, true, false, Less, Equal, Greater, nat_lt, ◌+◌, refl, sym, subst, ◌∙◌, arith}
use Rattle.std.specs.Ordering.{nat_cmp, ordering_index}
use Rattle.std.specs.List.Sorted.{IsBinarySearchResult, IsSearchInRange, IsNonDecreasing, IsNonDecreasingBy}
use Rattle.std.specs.Result.{is_ok}
use Rattle.std.proofs.lemmas.Grind.{common_steps}
use Rattle.std.proofs.lemmas.List.{get_or_default, get_or-map, length-map}
use Rattle.std.proofs.lemmas.List.Sorted.{searched}

pub binary_search_found : (xs : List ℕ) (x : ℕ) (r : Result ℕ ℕ) → IsNonDecreasing xs → IsBinarySearchResult (λ y. nat_cmp y x) xs r → is_ok r ≡ true → Contains xs x
binary_search_found xs x (Ok i) rise h is =
    let s = searched xs x (Ok i) h (λ i j. rise i j 0) in
    (i, s.0, get_or_default xs i x 0 s.0 ∙ s.1)
binary_search_found xs x (Err i) rise h is = cc

pub binary_search_not_found : (xs : List ℕ) (x : ℕ) (r : Result ℕ ℕ) → IsNonDecreasing xs → IsBinarySearchResult (λ y. nat_cmp y x) xs r → is_ok r ≡ false → Contains xs x → ⊥
binary_search_not_found xs x (Ok i) rise h is has = cc
binary_search_not_found xs x (Err i) rise h is has =
    let s = searched xs x (Err i) h (λ i j. rise i j 0) in
    let at = get_or_default xs has.0 0 x has.1 ∙ has.2 in
    grind (arith, common_steps, s.1 has.0, s.2 has.0)

more_or : (b : Bool) (n k : ℕ) (xs : List ℕ) → nat_lt k n ≡ b → (k < n → Contains xs k) → Contains xs n → k < n + 1 → Contains xs k
more_or true n k xs is below at near = below (grind (arith, common_steps, is))
more_or false n k xs is below at near = let e : n ≡ k = grind (arith, common_steps, is, near) in subst (Contains xs) e at

-- all numbers up to n, if all below n and n itself are present
pub count_succ : (n : ℕ) (xs : List ℕ) → ((k : ℕ) → 0 < k → k < n → Contains xs k) → Contains xs n → (k : ℕ) → 0 < k → k < n + 1 → Contains xs k
count_succ n xs below at k some near = more_or (nat_lt k n) n k xs refl (below k some) at near

-- ---- the result of a search by key

item_in_range : {A : Type 0} (xs : List A) (i : ℕ) → i < length xs → A
item_in_range [] i lt = absurd (omega (arith, lt))
item_in_range (x ∷ xs) i lt = x

module _ {A : Type 0} (f : A → ℕ) (x : ℕ) (ps : List A) where
  at_map : (P : ℕ → Type 0) (i e : ℕ) (d : A) → i < length ps → P (f (slice_index_or ps i d)) → P (slice_index_or (map f ps) i e)
  at_map P i e d lt h = subst P (sym (get_or-map f ps i d e lt)) h

  pub binary_search_of_map : (r : Result ℕ ℕ) → IsSearchInRange r (length ps) → IsBinarySearchResult (λ p. nat_cmp (f p) x) ps r → IsBinarySearchResult (λ n. nat_cmp n x) (map f ps) r
  binary_search_of_map (Ok i) b h = λ e. let d = item_in_range ps i b in at_map (λ n. nat_cmp n x ≡ Equal) i e d b (h d)
  binary_search_of_map (Err i) b h =
      λ rise.
      let long = length-map ps f in
      let p = h (λ k j d le lt.
      let low = get_or-map f ps k d (f d) (omega (arith, le, lt)) in
      let high = get_or-map f ps j d (f d) lt in
      let R : ℕ → ℕ → Type 0 = λ m n. ordering_index (nat_cmp m x) ≤ ordering_index (nat_cmp n x) in
      subst (λ (n : ℕ). R (f (slice_index_or ps k d)) n) high (subst (λ (n : ℕ). R n (slice_index_or (map f ps) j (f d))) low (rise k j (f d) le (omega (arith, lt, long))))) in (
        (λ k e from lt. let below : k < length ps = omega (arith, lt, b) in let d = item_in_range ps k below in at_map (λ n. nat_cmp n x ≡ Less) k e d below (p.0 k d from lt)),
        (λ k e from lt. let below : k < length ps = omega (arith, lt, long) in let d = item_in_range ps k below in at_map (λ n. nat_cmp n x ≡ Greater) k e d below (p.1 k d from below)),
      )

  -- the numbers of sorted items are sorted
  pub nondecreasing_map : IsNonDecreasingBy f ps → IsNonDecreasing (map f ps)
  nondecreasing_map h i j e le lt =
      let long = length-map ps f in
      let below : j < length ps = omega (arith, lt, long) in
      let d = item_in_range ps j below in
      let low = get_or-map f ps i d e (omega (arith, le, below)) in
      let high = get_or-map f ps j d e below in
      let same = h i j d le below in
      omega (arith, low, high, same)
