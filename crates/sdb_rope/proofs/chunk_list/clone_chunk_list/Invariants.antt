use Rattle.std.proofs.Common.{◌≡◌, take}
use Rattle.sdb_rope.specs.RopeChunk.{chunk_list_texts}
use Rattle.sdb_rope.proofs.chunk_list.clone_chunk_list.Given as goal

abbrev pub invariant-loop-chunk : goal.invariant-loop-chunk
invariant-loop-chunk l = chunk_list_texts l.copies.items ≡ chunk_list_texts (take l.chunk-index l.chunks)
