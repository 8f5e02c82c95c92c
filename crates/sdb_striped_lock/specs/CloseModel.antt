-- The values that a close returns.
use Rattle.std.specs.Prelude.{◌≡◌, ℕ, ◌<◌, ◌≤◌, List, length, slice_index_or}
use Rattle.sdb_growlock.specs.LockRule.{ForEach}
use Rattle.sdb_growlock.specs.declared.grow_lock.Seat.{Seat}
use Rattle.sdb_growlock.specs.SeatModel.{HasSeen, HasNumber, seat_count}
use Rattle.sdb_growlock.specs.SeatModel as one
use Rattle.sdb_striped_lock.specs.AtIndex.{HasSeenAt}
use Rattle.sdb_striped_lock.specs.declared.striped_lock.SeatSet.{SeatSet}
use Rattle.sdb_striped_lock.specs.declared.striped_lock.RootSeats.{RootSeats}

-- these are all seats of a lock
abbrev pub HasEverySeat : {T : Type 0} → List (Seat T) → Type 0
HasEverySeat seats = (0 < seat_count seats) × ((k : ℕ) → k < seat_count seats → HasNumber k seats)

module _ {T : Type 0} (extends : T → T → Type 0) (same : ℕ → T → T → Type 0) (blank : ℕ → T → Type 0) where
  -- the value extends what the seat at an index has observed, and has the same part of the number
  abbrev pub ExtendsAndKeeps : ℕ → ℕ → List (Seat T) → T → Type 0
  ExtendsAndKeeps i n seats v = (x : T) → HasSeenAt seats i x → extends v x × same n x v

  -- the value at an index extends what each caller has observed there, has each caller's part unchanged, and has no
  -- part of any other number
  pub record IsCloseResult (first : RootSeats T) (callers : List (SeatSet T)) (i : ℕ) (v : T) : Type 0 where
    pub extends_root : ExtendsAndKeeps i 0 first.seats.items v
    pub others : ForEach (λ c. ExtendsAndKeeps i c.number c.seats.items v) callers
    pub blank_elsewhere : (k : ℕ) → first.next ≤ k → blank k v

  -- a close returns eight values, one for each lock
  pub record AreCloseResults (first : RootSeats T) (callers : List (SeatSet T)) (values : List T) : Type 0 where
    pub length : length values ≡ 8
    pub each : (i : ℕ) (d : T) → i < 8 → IsCloseResult first callers i (slice_index_or values i d)

  -- the value that one lock returns for its seats
  abbrev pub IsValueAfterClose : List (Seat T) → T → Type 0
  IsValueAfterClose seats v =
      ForEach (λ s. (x : T) → HasSeen s x → extends v x × same (one.number s) x v) seats
      × ((k : ℕ) → seat_count seats ≤ k → blank k v)
