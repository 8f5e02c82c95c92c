use Rattle.std.proofs.Common.{◌≡◌, map}
use Rattle.sdb_rope.specs.ChunkModel.{chunk_texts}
use Rattle.sdb_rope.proofs.regroup.freeze_each.Given as goal

abbrev pub invariant-loop-at : goal.invariant-loop-at
invariant-loop-at l = map chunk_texts l.groups.items ≡ map chunk_texts l.initial.groups.items
