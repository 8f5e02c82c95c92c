-- The contents and the uniqueness of a chunked list.
use Rattle.std.specs.Prelude.{ℕ, List, [], ◌∷◌, map, Bool, true, false, cond}
use Rattle.std.specs.List.{flat_map}
use Rattle.sdb_chunks.specs.Chunk.{items_of, is_chunk_unique, is_chunk_shared}
use Rattle.sdb_chunks.specs.ChunkGroup.{group_chunks, flatten_group_models, is_unique_in_groups_at}
use Rattle.sdb_chunks.specs.declared.chunk.Chunk.{Chunk}
use Rattle.sdb_chunks.specs.declared.chunked_vec.Repr.{Repr}
use Rattle.sdb_chunks.specs.declared.chunked_vec.Repr.TheVariants.{Flat, Chunks, Groups}
use Rattle.sdb_chunks.specs.declared.chunked_vec.ChunkedVec.{ChunkedVec}
pub use Rattle.sdb_chunks.specs.Chunks.{chunk_models, flatten_models, all_unique, is_unique_at, all_shared, max_chunk_length}

abbrev pub repr_models : {X S : Type 0} → (X → S) → Repr X → List S
repr_models f (Flat b) = chunk_models f b
repr_models f (Chunks bs) = flatten_models f (items_of bs)
repr_models f (Groups gs) = flatten_group_models f (items_of gs)

-- the representation of a list
abbrev pub vec_repr : {X : Type 0} → ChunkedVec X → Repr X
vec_repr l = l.repr

abbrev pub vec_models : {X S : Type 0} → (X → S) → ChunkedVec X → List S
vec_models f l = repr_models f l.repr

-- no part is shared, except inside items; a list has groups only after a freeze
abbrev pub is_unique_repr : {X : Type 0} → Repr X → Bool
is_unique_repr (Flat b) = is_chunk_unique b
is_unique_repr (Chunks bs) = cond (is_chunk_unique bs) (all_unique (items_of bs)) false
is_unique_repr (Groups gs) = false

abbrev pub is_unique_vec : {X : Type 0} → ChunkedVec X → Bool
is_unique_vec l = is_unique_repr l.repr

-- all parts on the path to item i are unique, or there is no such item
abbrev pub is_unique_repr_at : {X : Type 0} → Repr X → ℕ → Bool
is_unique_repr_at (Flat b) i = is_chunk_unique b
is_unique_repr_at (Chunks bs) i = cond (is_chunk_unique bs) (is_unique_at (items_of bs) i) false
is_unique_repr_at (Groups gs) i = cond (is_chunk_unique gs) (is_unique_in_groups_at (items_of gs) i) false

abbrev pub is_unique_vec_at : {X : Type 0} → ChunkedVec X → ℕ → Bool
is_unique_vec_at l i = is_unique_repr_at l.repr i

abbrev pub is_grouped : {X : Type 0} → Repr X → Bool
is_grouped (Flat b) = false
is_grouped (Chunks bs) = false
is_grouped (Groups gs) = true

abbrev pub is_grouped_vec : {X : Type 0} → ChunkedVec X → Bool
is_grouped_vec l = is_grouped l.repr

-- the list is one unique chunk
abbrev pub is_unique_flat_repr : {X : Type 0} → Repr X → Bool
is_unique_flat_repr (Flat b) = is_chunk_unique b
is_unique_flat_repr (Chunks bs) = false
is_unique_flat_repr (Groups gs) = false

abbrev pub is_unique_flat_vec : {X : Type 0} → ChunkedVec X → Bool
is_unique_flat_vec l = is_unique_flat_repr l.repr

-- a clone is a pointer
abbrev pub is_shared_repr : {X : Type 0} → Repr X → Bool
is_shared_repr (Flat b) = is_chunk_shared b
is_shared_repr (Chunks bs) = is_chunk_shared bs
is_shared_repr (Groups gs) = is_chunk_shared gs

abbrev pub is_shared_vec : {X : Type 0} → ChunkedVec X → Bool
is_shared_vec l = is_shared_repr l.repr

-- a list's chunks
abbrev pub repr_chunks : {X : Type 0} → Repr X → List (Chunk X)
repr_chunks (Flat b) = b ∷ []
repr_chunks (Chunks bs) = items_of bs
repr_chunks (Groups gs) = flat_map group_chunks (items_of gs)

abbrev pub vec_chunks : {X : Type 0} → ChunkedVec X → List (Chunk X)
vec_chunks l = repr_chunks l.repr

-- the items of each chunk
abbrev pub vec_chunk_items : {X : Type 0} → ChunkedVec X → List (List X)
vec_chunk_items l = map items_of (vec_chunks l)

-- a list's items
abbrev pub vec_items : {X : Type 0} → ChunkedVec X → List X
vec_items l = flat_map items_of (vec_chunks l)
