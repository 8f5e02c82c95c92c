-- The contents and the uniqueness of a chunk.
use Rattle.std.specs.Prelude.{List, Bool, true, false}
use Rattle.sdb_chunks.specs.declared.chunk.Chunk.{Chunk}
use Rattle.sdb_chunks.specs.declared.chunk.Chunk.TheVariants.{Unique, Shared}

abbrev pub items_of : {X : Type 0} → Chunk X → List X
items_of (Unique v) = v.items
items_of (Shared a) = a.value.items

abbrev pub is_chunk_unique : {X : Type 0} → Chunk X → Bool
is_chunk_unique (Unique v) = true
is_chunk_unique (Shared a) = false

abbrev pub is_chunk_shared : {X : Type 0} → Chunk X → Bool
is_chunk_shared (Unique v) = false
is_chunk_shared (Shared a) = true
