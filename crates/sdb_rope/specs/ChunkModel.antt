-- Chunks in a list that is unique or shared.
use Rattle.std.specs.Prelude.{ℕ, List, [], ◌∷◌, Bool, true, ◌&&◌}
use Rattle.sdb_chunks.specs.Chunk.{items_of, is_chunk_unique}
use Rattle.sdb_chunks.specs.declared.chunk.Chunk.{Chunk}
use Rattle.sdb_rope.specs.RopeChunk.{is_unique_rope_chunk, chunk_list_texts}
use Rattle.sdb_rope.specs.declared.rope_chunk.RopeChunk.{RopeChunk}

-- the bytes of each chunk
abbrev pub chunk_texts : Chunk RopeChunk → List (List ℕ)
chunk_texts b = chunk_list_texts (items_of b)

abbrev pub all_rope_chunks_unique : List RopeChunk → Bool
all_rope_chunks_unique [] = true
all_rope_chunks_unique (p ∷ ps) = is_unique_rope_chunk p && all_rope_chunks_unique ps

-- neither the list nor a chunk is shared
abbrev pub is_unique_chunk : Chunk RopeChunk → Bool
is_unique_chunk b = is_chunk_unique b && all_rope_chunks_unique (items_of b)
