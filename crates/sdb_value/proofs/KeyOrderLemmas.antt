-- The members of an object sorted by key.
use Rattle.std.proofs.Common.{◌≡◌, List, ℕ, ◌∷◌, Less}
use Rattle.std.specs.List.{AllByRecursion}
use Rattle.std.specs.List.Sorted.{IsStrictlySortedBy}
use Rattle.sdb_sorted_map.specs.SortedMap.{entry_keys}
use Rattle.sdb_sorted_map.specs.KeyOrder.{compare_bytes, IsAscending}
use Rattle.sdb_value.specs.declared.value.Json.{Json}

abbrev pub NamedEntry : Type 0
NamedEntry = List ℕ × Json

-- the key is less than each of the names
abbrev pub IsBelowAllNames : List ℕ → List NamedEntry → Type 0
IsBelowAllNames k es = AllByRecursion (λ y. compare_bytes k y ≡ Less) (entry_keys es)

pub record FirstIsLeast (e : NamedEntry) (es : List NamedEntry) : Type 0 where
  pub below : IsBelowAllNames e.0 es
  pub rest : IsAscending (entry_keys es)

-- the first name is the least
pub first_is_least : (e : NamedEntry) (es : List NamedEntry) → IsAscending (entry_keys (e ∷ es)) → FirstIsLeast e es
unfolding IsStrictlySortedBy
first_is_least e es h = record { below = h.0; rest = h.1 }
