-- The entries of a sorted map, and their uniqueness.
use Rattle.std.specs.Prelude.{ℕ, List, Bool, map}
use Rattle.sdb_chunks.specs.ChunkedVec.{vec_models, vec_items, is_unique_vec, is_shared_vec}
use Rattle.sdb_chunks.specs.declared.chunked_vec.ChunkedVec.{ChunkedVec}
use Rattle.sdb_sorted_map.specs.MapEntry.{key_value, entry_model}
use Rattle.sdb_sorted_map.specs.SearchModel.{vec_keys}
use Rattle.sdb_sorted_map.specs.declared.map_entry.MapEntry.{MapEntry}
use Rattle.sdb_sorted_map.specs.declared.sorted_map.SortedMap.{SortedMap}

-- the list of entries, and their keys
abbrev pub map_chunks : {X : Type 0} → SortedMap X → ChunkedVec (MapEntry X)
map_chunks m = m.entries

abbrev pub map_keys : {X : Type 0} → SortedMap X → List (List ℕ)
map_keys m = vec_keys m.entries

-- the bytes of each key, with its value
abbrev pub map_entries : {X : Type 0} → SortedMap X → List (List ℕ × X)
map_entries m = map key_value (vec_items m.entries)

-- the bytes of each key, with the view f of its value
abbrev pub map_entry_models : {X S : Type 0} → (X → S) → SortedMap X → List (List ℕ × S)
map_entry_models f m = vec_models (entry_model f) m.entries

-- the keys of entries
abbrev pub entry_keys : {X : Type 0} → List (List ℕ × X) → List (List ℕ)
entry_keys es = map (λ e. e.0) es

-- no part is shared, except inside the values
abbrev pub is_unique_map : {X : Type 0} → SortedMap X → Bool
is_unique_map m = is_unique_vec m.entries

-- a clone is a pointer
abbrev pub is_shared_map : {X : Type 0} → SortedMap X → Bool
is_shared_map m = is_shared_vec m.entries
