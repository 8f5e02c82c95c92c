-- A cursor over the chunks of a text.
use Rattle.std.specs.Prelude.{ℕ, List, ◌++◌}
use Rattle.std.specs.List.{concat}
use Rattle.sdb_chunks.specs.Iter.{remaining_items}
use Rattle.sdb_rope.specs.RopeChunk.{chunk_list_texts}
use Rattle.sdb_rope.specs.declared.compare.ChunkCursor.{ChunkCursor}

abbrev pub remaining_bytes : ChunkCursor → List ℕ
remaining_bytes l = l.current.now ++ concat (chunk_list_texts (remaining_items l.rest))
