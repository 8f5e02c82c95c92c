-- The uniqueness of a clone.
use Rattle.std.specs.Prelude.{◌≡◌, List, map, Bool, true, false, cond}
use Rattle.sdb_chunks.specs.Chunk.{items_of, is_chunk_unique}
use Rattle.sdb_chunks.specs.declared.chunk.Chunk.{Chunk}
use Rattle.sdb_sorted_map.specs.declared.map_entry.MapEntry.{MapEntry}
use Rattle.sdb_value.specs.Uniqueness.{all_true, items_unique, members_unique}
use Rattle.sdb_value.specs.declared.clone_modes.CloneMode.{CloneMode}
use Rattle.sdb_value.specs.declared.clone_modes.CloneMode.TheVariants.{Preserve, Unique, Frozen}
use Rattle.sdb_value.specs.declared.value.Json.{Json}

-- by mode: whether the original was unique, whether the clone is, and whether the next clone is a pointer
abbrev pub HasUniquenessOfMode : CloneMode → Bool → Bool → Bool → Type 0
HasUniquenessOfMode Preserve was now pointer = now ≡ was
HasUniquenessOfMode Unique was now pointer = now ≡ true
HasUniquenessOfMode Frozen was now pointer = pointer ≡ true

-- a unique chunk with unique items, and a list of such chunks
abbrev pub is_deep_unique_chunk : Chunk Json → Bool
is_deep_unique_chunk b = cond (is_chunk_unique b) (items_unique (items_of b)) false

abbrev pub are_deep_unique_chunks : List (Chunk Json) → Bool
are_deep_unique_chunks bs = all_true (map is_deep_unique_chunk bs)

-- the same for chunks of members
abbrev pub is_deep_unique_member_chunk : Chunk (MapEntry Json) → Bool
is_deep_unique_member_chunk b = cond (is_chunk_unique b) (members_unique (items_of b)) false

abbrev pub are_deep_unique_member_chunks : List (Chunk (MapEntry Json)) → Bool
are_deep_unique_member_chunks bs = all_true (map is_deep_unique_member_chunk bs)
