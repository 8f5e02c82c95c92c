use Rattle.std.proofs.Common.{◌≡◌, List, ◌++◌, map, length}
use Rattle.sdb_growlock.specs.LockRule.{join_all_views}
use Rattle.sdb_growlock.specs.declared.grow_lock.Seat.{Seat}
use Rattle.sdb_growlock.proofs.grow_lock.GrowLock.join_all_table_seats.Given as goal

abbrev pub invariant-loop-seat : goal.invariant-loop-seat
invariant-loop-seat g l = record {
  table : l.table_seat.table_id ≡ l.initial.table_seat.table_id;
  id : l.table_seat.id ≡ l.initial.table_seat.id;
  all : (done : List (Seat g.row.T.Denot)) × (l.initial.seats.items ≡ l.seats.items ++ done) × (l.table_seat.me ≡ (join_all_views l.initial.table_seat.me.0 (map (λ s. s.inner.me.0) done), l.initial.table_seat.me.1));
}

abbrev pub decreases-loop-seat : goal.decreases-loop-seat
decreases-loop-seat g l = length l.seats.items
