-- Facts about each index of some lists. The default for an index outside a list doesn't matter.
use Rattle.std.specs.Prelude.{ℕ, ◌<◌, ◌≤◌, List, slice_index_or}
use Rattle.sdb_growlock.specs.SeatModel.{HasSeen}
use Rattle.sdb_growlock.specs.declared.grow_lock.Seat.{Seat}

module _ {A B : Type 0} where
  -- a relation of the items at each index from n up to, and without, m
  abbrev pub AtEachIndex : (A → B → Type 0) → List A → List B → ℕ → ℕ → Type 0
  AtEachIndex P xs ys n m = (i : ℕ) (x : A) (y : B) → n ≤ i → i < m → P (slice_index_or xs i x) (slice_index_or ys i y)

-- the seat at an index has observed this value
abbrev pub HasSeenAt : {T : Type 0} → List (Seat T) → ℕ → T → Type 0
HasSeenAt seats i x = (s : Seat _) → HasSeen (slice_index_or seats i s) x
