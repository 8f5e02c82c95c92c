-- The contents of a group of chunks, and the uniqueness of its chunks.
use Rattle.std.specs.Prelude.{ℕ, ◌-◌, List, [], ◌∷◌, Bool, true, false, cond, nat_lt, if◌then◌else◌}
use Rattle.std.specs.List.{flat_map}
use Rattle.sdb_chunks.specs.Chunk.{items_of, is_chunk_unique}
use Rattle.sdb_chunks.specs.Chunks.{flatten_models, is_unique_at, max_chunk_length}
use Rattle.sdb_chunks.specs.declared.chunk.Chunk.{Chunk}
use Rattle.sdb_chunks.specs.declared.chunk_group.ChunkGroup.{ChunkGroup}

-- a group's list of chunks, unique or shared
abbrev pub group_chunk_list : {X : Type 0} → ChunkGroup X → Chunk (Chunk X)
group_chunk_list g = g.chunks

-- a group's chunks
abbrev pub group_chunks : {X : Type 0} → ChunkGroup X → List (Chunk X)
group_chunks g = items_of (group_chunk_list g)

-- the views f of a group's items
abbrev pub group_models : {X S : Type 0} → (X → S) → ChunkGroup X → List S
group_models f g = flatten_models f (group_chunks g)

-- the views of the items of all groups in order
abbrev pub flatten_group_models : {X S : Type 0} → (X → S) → List (ChunkGroup X) → List S
flatten_group_models f gs = flat_map (group_models f) gs

-- the list of chunks and the chunk of item i are unique
abbrev pub is_unique_group_at : {X : Type 0} → ChunkGroup X → ℕ → Bool
is_unique_group_at g i = cond (is_chunk_unique (group_chunk_list g)) (is_unique_at (group_chunks g) i) false

-- the list of chunks of item i's group and the item's chunk are unique, or there is no such item
abbrev pub is_unique_in_groups_at : {X : Type 0} → List (ChunkGroup X) → ℕ → Bool
is_unique_in_groups_at [] i = true
is_unique_in_groups_at (g ∷ gs) i = if nat_lt i g.count then is_unique_group_at g i else is_unique_in_groups_at gs (i - g.count)

-- the greatest length of a chunk in the groups
abbrev pub max_grouped_length : {X : Type 0} → List (ChunkGroup X) → ℕ
max_grouped_length gs = max_chunk_length (flat_map group_chunks gs)
