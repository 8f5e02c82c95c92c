-- The order of texts by their bytes, and the position of a key in it.
use Rattle.std.specs.Prelude.{◌≡◌, ℕ, ◌≤◌, List, length, take, drop, slice_get, Some}
use Rattle.std.specs.List.{AllByRecursion}
use Rattle.std.specs.List.Sorted.{IsStrictlySortedBy}
use Rattle.std.specs.Ordering.{nat_cmp}
use Rattle.std.specs.declared.cmp.Ordering.{Ordering}
use Rattle.std.specs.declared.cmp.Ordering.TheVariants.{Less, Greater}
use Rattle.std.specs.Cmp.Lexicographic.{slice_cmp}

-- the comparison of two texts by their bytes
abbrev pub compare_bytes : List ℕ → List ℕ → Ordering
compare_bytes = slice_cmp nat_cmp

-- each text is less than those after it
abbrev pub IsAscending : List (List ℕ) → Type 0
IsAscending = IsStrictlySortedBy compare_bytes

-- the key is greater than all texts, or less than all
abbrev pub IsAboveAll : List ℕ → List (List ℕ) → Type 0
IsAboveAll k ts = AllByRecursion (λ t. compare_bytes k t ≡ Greater) ts

abbrev pub IsBelowAll : List ℕ → List (List ℕ) → Type 0
IsBelowAll k ts = AllByRecursion (λ t. compare_bytes k t ≡ Less) ts

-- the key is absent, and this is the index at which to insert it
pub record IsInsertIndex (ts : List (List ℕ)) (k : List ℕ) (i : ℕ) : Type 0 where
  pub in_range : i ≤ length ts
  pub above_all_before : IsAboveAll k (take i ts)
  pub below : IsBelowAll k (drop i ts)

-- the key is the text at the index, and greater than those before it
pub record IsKeyIndex (ts : List (List ℕ)) (k : List ℕ) (i : ℕ) : Type 0 where
  pub key_at_index : slice_get ts i ≡ Some k
  pub above_all_before : IsAboveAll k (take i ts)
