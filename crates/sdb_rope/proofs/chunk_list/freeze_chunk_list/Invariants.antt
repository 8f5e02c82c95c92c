use Rattle.std.proofs.Common.{◌≡◌}
use Rattle.sdb_rope.specs.RopeChunk.{chunk_list_texts}
use Rattle.sdb_rope.proofs.chunk_list.freeze_chunk_list.Given as goal

abbrev pub invariant-loop-at : goal.invariant-loop-at
invariant-loop-at l = chunk_list_texts l.chunks.items ≡ chunk_list_texts l.initial.chunks.items
