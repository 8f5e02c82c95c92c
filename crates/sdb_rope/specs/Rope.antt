-- The contents and the uniqueness of a rope.
use Rattle.std.specs.Prelude.{ℕ, List, [], ◌∷◌, Bool, false}
use Rattle.std.specs.List.{concat}
use Rattle.sdb_chunks.specs.Chunk.{items_of, is_chunk_shared}
use Rattle.sdb_rope.specs.SharedStr.{str_bytes, is_unique_str, is_shared_str}
use Rattle.sdb_rope.specs.ChunkModel.{chunk_texts, is_unique_chunk}
use Rattle.sdb_rope.specs.GroupModel.{texts_of_groups}
use Rattle.sdb_rope.specs.Position.{AreBounded}
use Rattle.sdb_rope.specs.declared.rope.RopeRepr.{RopeRepr}
use Rattle.sdb_rope.specs.declared.rope.RopeRepr.TheVariants.{Flat, Chunks, Groups}
use Rattle.sdb_rope.specs.declared.rope.Rope.{Rope}

abbrev pub repr_texts : RopeRepr → List (List ℕ)
repr_texts (Flat c) = str_bytes c ∷ []
repr_texts (Chunks b) = chunk_texts b
repr_texts (Groups b) = texts_of_groups (items_of b)

-- the bytes of each chunk in order
abbrev pub rope_texts : Rope → List (List ℕ)
rope_texts t = repr_texts t.repr

-- the bytes of the whole text
abbrev pub rope_bytes : Rope → List ℕ
rope_bytes t = concat (rope_texts t)

abbrev pub is_unique_rope_repr : RopeRepr → Bool
is_unique_rope_repr (Flat c) = is_unique_str c
is_unique_rope_repr (Chunks b) = is_unique_chunk b
is_unique_rope_repr (Groups b) = false

-- no part is shared; groups exist only in texts that were frozen
abbrev pub is_unique_rope : Rope → Bool
is_unique_rope t = is_unique_rope_repr t.repr

abbrev pub is_shared_rope_repr : RopeRepr → Bool
is_shared_rope_repr (Flat c) = is_shared_str c
is_shared_rope_repr (Chunks b) = is_chunk_shared b
is_shared_rope_repr (Groups b) = is_chunk_shared b

-- a clone is a pointer
abbrev pub is_shared_rope : Rope → Bool
is_shared_rope t = is_shared_rope_repr t.repr

-- each chunk has at most 4,096 bytes
abbrev pub HasBoundedChunks : Rope → Type 0
HasBoundedChunks t = AreBounded (rope_texts t)
