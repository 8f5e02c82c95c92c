use Rattle.std.proofs.Common.{◌≡◌, ℕ, ◌+◌, ◌<◌, ◌≤◌, length, slice_index_or, vec_capacity}
use Rattle.sdb_growlock.specs.declared.grow_lock.Seat.{Seat}
use Rattle.sdb_growlock.specs.SeatModel.{SeeSameBlankValue}
use Rattle.sdb_striped_lock.specs.AtIndex.{AtEachIndex}
use Rattle.sdb_striped_lock.specs.SeatSetModel.{IsSeatNumbered, IsRootSeat}
use Rattle.sdb_striped_lock.proofs.striped_lock.StripedLock.split_stripes.Given as goal

abbrev pub invariant-loop-index : goal.invariant-loop-index
invariant-loop-index g l =
    record {
      eight : length l.firsts.items ≡ 8;
      long : length l.seats.items ≡ l.index;
      room : 8 ≤ vec_capacity l.seats;
      before : AtEachIndex (IsRootSeat (l.number + 1)) l.firsts.items l.self.locks.items 0 l.index;
      left : (i : ℕ) (s : Seat g.row.T.Denot) → l.index ≤ i → i < 8 → slice_index_or l.firsts.items i s ≡ slice_index_or l.initial.firsts.items i s;
      given : AtEachIndex (IsSeatNumbered l.number) l.seats.items l.self.locks.items 0 l.index;
      seen : (i : ℕ) (s : Seat g.row.T.Denot) → i < l.index
          → SeeSameBlankValue g.T.Grows.blank (slice_index_or l.initial.firsts.items i s) (slice_index_or l.firsts.items i s) (slice_index_or l.seats.items i s);
    }
