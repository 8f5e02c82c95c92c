-- The keys of entries in a chunked list.
use Rattle.std.specs.Prelude.{ℕ, List, map, take, drop, Option, Some, None, Bool, false, not}
use Rattle.std.specs.List.{flat_map}
use Rattle.std.specs.Ordering.{is_lt}
use Rattle.sdb_chunks.specs.ChunkGroup.{group_models}
use Rattle.sdb_chunks.specs.ChunkedVec.{chunk_models, vec_models}
use Rattle.sdb_chunks.specs.declared.chunk.Chunk.{Chunk}
use Rattle.sdb_chunks.specs.declared.chunk_group.ChunkGroup.{ChunkGroup}
use Rattle.sdb_chunks.specs.declared.chunked_vec.ChunkedVec.{ChunkedVec}
use Rattle.sdb_sorted_map.specs.MapEntry.{entry_key}
use Rattle.sdb_sorted_map.specs.KeyOrder.{compare_bytes}
use Rattle.sdb_sorted_map.specs.declared.map_entry.MapEntry.{MapEntry}

-- the keys of entries, of a chunk, of a group, and of a list
abbrev pub entry_key_bytes : {X : Type 0} → List (MapEntry X) → List (List ℕ)
entry_key_bytes ms = map entry_key ms

abbrev pub chunk_keys : {X : Type 0} → Chunk (MapEntry X) → List (List ℕ)
chunk_keys b = chunk_models entry_key b

abbrev pub group_keys : {X : Type 0} → ChunkGroup (MapEntry X) → List (List ℕ)
group_keys g = group_models entry_key g

abbrev pub vec_keys : {X : Type 0} → ChunkedVec (MapEntry X) → List (List ℕ)
vec_keys l = vec_models entry_key l

-- the keys of the first n runs, and those of the others, by a view t
abbrev pub keys_of_first_runs : {P : Type 0} → (P → List (List ℕ)) → List P → ℕ → List (List ℕ)
keys_of_first_runs t ps n = flat_map t (take n ps)

abbrev pub keys_of_other_runs : {P : Type 0} → (P → List (List ℕ)) → List P → ℕ → List (List ℕ)
keys_of_other_runs t ps n = flat_map t (drop n ps)

-- there is a first text greater than the key
abbrev pub first_key_above : List ℕ → Option (List ℕ) → Bool
first_key_above k None = false
first_key_above k (Some t) = is_lt (compare_bytes k t)

-- there is a first text, not greater than the key
abbrev pub first_key_at_most : List ℕ → Option (List ℕ) → Bool
first_key_at_most k None = false
first_key_at_most k (Some t) = not (is_lt (compare_bytes k t))
