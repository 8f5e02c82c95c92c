use Rattle.std.proofs.Common.{◌≡◌, ◌++◌, string_bytes}
use Rattle.std.specs.List.{concat}
use Rattle.sdb_chunks.specs.Iter.{remaining_items}
use Rattle.sdb_rope.specs.RopeChunk.{chunk_list_texts}
use Rattle.sdb_rope.proofs.read.concat_chunks.Given as goal

abbrev pub invariant-loop-chunk : goal.invariant-loop-chunk
invariant-loop-chunk l = string_bytes l.whole ++ concat (chunk_list_texts (remaining_items l.chunk-iterator)) ≡ concat (chunk_list_texts (remaining_items l.chunks))
