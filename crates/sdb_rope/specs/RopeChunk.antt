-- The contents and the uniqueness of chunks.
use Rattle.std.specs.Prelude.{◌≡◌, ℕ, List, Bool, true, map}
use Rattle.sdb_rope.specs.SharedStr.{str_bytes, is_unique_str}
use Rattle.sdb_rope.specs.declared.rope_chunk.RopeChunk.{RopeChunk}

abbrev pub chunk_bytes : RopeChunk → List ℕ
chunk_bytes p = str_bytes p.text

abbrev pub is_unique_rope_chunk : RopeChunk → Bool
is_unique_rope_chunk p = is_unique_str p.text

abbrev pub IsUniqueChunk : RopeChunk → Type 0
IsUniqueChunk p = is_unique_rope_chunk p ≡ true

-- the bytes of each chunk
abbrev pub chunk_list_texts : List RopeChunk → List (List ℕ)
chunk_list_texts ps = map chunk_bytes ps
