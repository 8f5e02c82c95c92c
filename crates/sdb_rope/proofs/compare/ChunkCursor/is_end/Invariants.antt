use Rattle.std.proofs.Common.{◌≡◌}
use Rattle.std.specs.List.{concat}
use Rattle.sdb_chunks.specs.Iter.{remaining_items}
use Rattle.sdb_rope.specs.Cursor.{remaining_bytes}
use Rattle.sdb_rope.specs.RopeChunk.{chunk_list_texts}
use Rattle.sdb_rope.proofs.compare.ChunkCursor.is_end.Given as goal

abbrev pub invariant-loop-chunk : goal.invariant-loop-chunk
invariant-loop-chunk l = concat (chunk_list_texts (remaining_items l.chunk-iterator)) ≡ remaining_bytes l.self
