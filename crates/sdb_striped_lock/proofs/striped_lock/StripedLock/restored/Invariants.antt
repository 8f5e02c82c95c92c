use Rattle.std.proofs.Common.{◌≡◌, ◌≤◌, ◌++◌, length, vec_capacity}
use Rattle.std.specs.Vec.Iter.{into_iter_items}
use Rattle.sdb_growlock.specs.SeatModel.{HasSeen}
use Rattle.sdb_striped_lock.specs.AtIndex.{AtEachIndex}
use Rattle.sdb_striped_lock.specs.SeatSetModel.{IsRootSeat}
use Rattle.sdb_striped_lock.proofs.striped_lock.StripedLock.restored.Given as goal

abbrev pub invariant-loop-value : goal.invariant-loop-value
invariant-loop-value g l =
    record {
      values : l.yielded ++ into_iter_items l.value-iterator ≡ l.fn.values.items;
      locks : length l.locks.items ≡ length l.yielded;
      seats : length l.seats.items ≡ length l.yielded;
      room : (8 ≤ vec_capacity l.locks) × (8 ≤ vec_capacity l.seats);
      own : AtEachIndex (IsRootSeat l.next) l.seats.items l.locks.items 0 (length l.yielded);
      seen : AtEachIndex HasSeen l.seats.items l.yielded 0 (length l.yielded);
    }
