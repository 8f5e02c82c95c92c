use Rattle.std.proofs.Common.{◌≡◌, ◌++◌, take}
use Rattle.sdb_rope.specs.RopeChunk.{chunk_list_texts}
use Rattle.sdb_rope.proofs.regroup.push_chunks.Given as goal

abbrev pub invariant-loop-chunk : goal.invariant-loop-chunk
invariant-loop-chunk l = chunk_list_texts l.chunks.items ≡ chunk_list_texts l.initial.chunks.items ++ chunk_list_texts (take l.chunk-index l.group)
