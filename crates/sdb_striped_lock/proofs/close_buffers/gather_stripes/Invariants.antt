use Rattle.std.proofs.Common.{◌≡◌, ℕ, ◌+◌, ◌<◌, ◌∷◌, length, map, slice_index_or, Vec, Global, vec_len, vec_capacity}
use Rattle.sdb_growlock.specs.declared.grow_lock.Seat.{Seat}
use Rattle.sdb_striped_lock.proofs.close_buffers.gather_stripes.Given as goal

abbrev pub invariant-loop-caller : goal.invariant-loop-caller
invariant-loop-caller g l =
    record {
      eight : length l.columns.items ≡ 8;
      room : (i : ℕ) (d : Vec (Seat g.row.T.Denot) Global) → i < 8
          → (vec_len (slice_index_or l.columns.items i d) ≡ length l.yielded + 1) × (length l.fn.callers.items < vec_capacity (slice_index_or l.columns.items i d));
      each : (i : ℕ) (d : Vec (Seat g.row.T.Denot) Global) (s : Seat g.row.T.Denot) → i < 8
          → (slice_index_or l.columns.items i d).items ≡ slice_index_or l.fn.first.seats.items i s ∷ map (λ c. slice_index_or c.seats.items i s) l.yielded;
    }
