use Rattle.std.specs.Map.{values_of}
use Rattle.sdb_desk.proofs.OpenQueueLemmas.{IsCountSoFar}
use Rattle.sdb_desk.proofs.shard.Shard.queues.Given as goal

abbrev pub invariant-loop-slot : goal.invariant-loop-slot
invariant-loop-slot l = IsCountSoFar (values_of l.self.slots.entries) l.slot-iterator l.count
