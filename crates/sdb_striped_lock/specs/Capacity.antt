-- Buffers for the seats and values of a close.
use Rattle.std.specs.Prelude.{◌≡◌, ℕ, ◌<◌, ◌≤◌, List, Vec, length, slice_index_or, vec_len, vec_capacity}
use Rattle.std.specs.Global.{Global}
use Rattle.sdb_growlock.specs.declared.grow_lock.Seat.{Seat}
use Rattle.sdb_striped_lock.specs.declared.close_buffers.CloseBuffers.{CloseBuffers}

module _ {T : Type 0} where
  -- eight empty lists, each with capacity for the seats of n callers and a first seat
  abbrev pub ColumnsHaveCapacity : ℕ → List (Vec (Seat T) Global) → Type 0
  ColumnsHaveCapacity n columns =
      (length columns ≡ 8)
      × ((i : ℕ) (d : Vec (Seat T) Global) → i < 8 → (vec_len (slice_index_or columns i d) ≡ 0)
      × (n < vec_capacity (slice_index_or columns i d)))

  -- capacity for the seats of n callers and for eight values
  abbrev pub HasCapacity : ℕ → CloseBuffers T → Type 0
  HasCapacity n p = ColumnsHaveCapacity n p.seats_by_stripe.items × (vec_len p.values ≡ 0) × (8 ≤ vec_capacity p.values)
