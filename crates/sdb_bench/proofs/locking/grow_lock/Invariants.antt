use Rattle.sdb_growlock.specs.SeatModel.{BelongsTo}
use Rattle.sdb_bench.proofs.locking.grow_lock.Given as goal

abbrev pub invariant-loop : goal.invariant-loop
invariant-loop g l = record { own : BelongsTo l.seat l.lock }
