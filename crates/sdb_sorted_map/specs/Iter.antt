-- The remaining entries of an iterator.
use Rattle.std.specs.Prelude.{ℕ, List, map}
use Rattle.sdb_chunks.specs.Iter.{remaining_items}
use Rattle.sdb_sorted_map.specs.MapEntry.{key_value}
use Rattle.sdb_sorted_map.specs.declared.iter.Iter.{Iter}

abbrev pub remaining_entries : {X : Type 0} → Iter X → List (List ℕ × X)
remaining_entries i = map key_value (remaining_items i.entries)
