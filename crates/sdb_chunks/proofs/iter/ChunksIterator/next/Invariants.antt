use Rattle.std.proofs.Common.{◌≡◌, length}
use Rattle.sdb_chunks.specs.Iter.{remaining_chunks}
use Rattle.sdb_chunks.proofs.iter.ChunksIterator.next.Given as goal

abbrev pub invariant-loop-group : goal.invariant-loop-group
invariant-loop-group g l = remaining_chunks l.self ≡ remaining_chunks l.initial.self

abbrev pub decreases-loop-group : goal.decreases-loop-group
decreases-loop-group g l = length l.self.groups.now
