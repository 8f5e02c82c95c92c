use Rattle.std.proofs.Common.{◌≡◌, length}
use Rattle.sdb_chunks.specs.Iter.{remaining_items, remaining_chunks}
use Rattle.sdb_chunks.proofs.iter.IterIterator.next.Given as goal

abbrev pub invariant-loop-self : goal.invariant-loop-self
invariant-loop-self g l = remaining_items l.self ≡ remaining_items l.initial.self

abbrev pub decreases-loop-self : goal.decreases-loop-self
decreases-loop-self g l = length (remaining_chunks l.self.chunks)
