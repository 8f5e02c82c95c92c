use Rattle.std.proofs.Common.{◌≡◌, ℕ, ◌<◌, ◌≤◌, ◌++◌, ◌∷◌, [], length, slice_index_or, Vec, Global, vec_capacity}
use Rattle.sdb_growlock.specs.declared.grow_lock.Seat.{Seat}
use Rattle.sdb_striped_lock.proofs.close_buffers.gather_stripe.Given as goal

abbrev pub invariant-loop-seat : goal.invariant-loop-seat
invariant-loop-seat g l =
    record {
      eight : length l.columns.items ≡ 8;
      few : length l.seats.items ≤ 8;
      seats : (i : ℕ) (d : Seat g.row.T.Denot) → i < length l.seats.items → slice_index_or l.seats.items i d ≡ slice_index_or l.initial.seats.items i d;
      done : (i : ℕ) (d : Vec (Seat g.row.T.Denot) Global) (s : Seat g.row.T.Denot) → length l.seats.items ≤ i → i < 8
          → (slice_index_or l.columns.items i d).items ≡ (slice_index_or l.initial.columns.items i d).items ++ slice_index_or l.initial.seats.items i s ∷ [];
      left : (i : ℕ) (d : Vec (Seat g.row.T.Denot) Global) → i < length l.seats.items → slice_index_or l.columns.items i d ≡ slice_index_or l.initial.columns.items i d;
      capacity : (i : ℕ) (d : Vec (Seat g.row.T.Denot) Global) → i < 8 → vec_capacity (slice_index_or l.columns.items i d) ≡ vec_capacity (slice_index_or l.initial.columns.items i d);
    }

abbrev pub decreases-loop-seat : goal.decreases-loop-seat
decreases-loop-seat g l = length l.seats.items
