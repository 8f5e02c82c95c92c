use Rattle.std.proofs.Common.{◌≡◌}
use Rattle.sdb_growlock.proofs.grow_lock.GrowLock.acquire.Given as goal

abbrev pub invariant-loop : goal.invariant-loop
invariant-loop g l = record { table : l.table_seat.table_id ≡ l.initial.table_seat.table_id; id : l.table_seat.id ≡ l.initial.table_seat.id; me : l.table_seat.me ≡ l.initial.table_seat.me }
