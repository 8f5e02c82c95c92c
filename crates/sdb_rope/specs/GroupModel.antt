-- Groups of chunks.
use Rattle.std.specs.Prelude.{◌≡◌, ℕ, suc, ◌+◌, ◌<◌, List, map, length, take}
use Rattle.std.specs.List.{concat, flat_map}
use Rattle.sdb_chunks.specs.declared.chunk.Chunk.{Chunk}
use Rattle.sdb_rope.specs.ChunkModel.{chunk_texts}
use Rattle.sdb_rope.specs.Position.{chunk_text}
use Rattle.sdb_rope.specs.Utf16.{units}
use Rattle.sdb_rope.specs.declared.rope_chunk.RopeChunk.{RopeChunk}

-- the bytes of each chunk, group by group
abbrev pub texts_of_groups : List (Chunk RopeChunk) → List (List ℕ)
texts_of_groups gs = flat_map chunk_texts gs

-- the bytes of each group
abbrev pub group_texts : List (Chunk RopeChunk) → List (List ℕ)
group_texts gs = map (λ g. concat (chunk_texts g)) gs

-- group k contains the offset as its code unit `left`, or it is the last group
pub record IsGroupAtOffset (ts : List (List ℕ)) (offset k left : ℕ) : Type 0 where
  pub index_in_range : k < length ts
  pub offset_is_sum : units (concat (take k ts)) + left ≡ offset
  pub within : suc k < length ts → left < units (chunk_text ts k)
