-- The definitions that contracts of eight locks and their callers use.
use Rattle.std.specs.Prelude.{◌≡◌, ◌≢◌, ℕ, ◌+◌, ◌<◌, List, map, slice_index_or}
use Rattle.sdb_growlock.specs.LockRule.{IsAmong}
use Rattle.sdb_growlock.specs.SeatModel.{BelongsTo}
use Rattle.sdb_growlock.specs.SeatModel as one
use Rattle.sdb_growlock.specs.declared.grow_lock.GrowLock.{GrowLock}
use Rattle.sdb_growlock.specs.declared.grow_lock.Seat.{Seat}
use Rattle.sdb_striped_lock.specs.AtIndex.{AtEachIndex, HasSeenAt}
use Rattle.sdb_striped_lock.specs.declared.striped_lock.StripedLock.{StripedLock}
use Rattle.sdb_striped_lock.specs.declared.striped_lock.SeatSet.{SeatSet}
use Rattle.sdb_striped_lock.specs.declared.striped_lock.RootSeats.{RootSeats}
use Rattle.sdb_striped_lock.specs.declared.operations.SplitFault.{SplitFault}
use Rattle.sdb_striped_lock.specs.declared.operations.SplitFault.TheVariants.{OutOfNumbers, OutOfMemory}

-- a seat of the lock with this number that isn't the first; and the first seat, with this next number
abbrev pub IsSeatNumbered : {T : Type 0} → ℕ → Seat T → GrowLock T → Type 0
IsSeatNumbered n s l = BelongsTo s l × (one.number s ≡ n) × (one.next s ≡ 0)

abbrev pub IsRootSeat : {T : Type 0} → ℕ → Seat T → GrowLock T → Type 0
IsRootSeat k s l = BelongsTo s l × (one.number s ≡ 0) × (one.next s ≡ k)

module _ {T : Type 0} where
  -- the number of a caller's seats
  abbrev pub seat_set_number : SeatSet T → ℕ
  seat_set_number s = s.number

  -- the number of the next caller
  abbrev pub next_seat_set_number : RootSeats T → ℕ
  next_seat_set_number f = f.next

  -- the seats belong to the locks, one to each
  abbrev pub SeatSetBelongsTo : SeatSet T → StripedLock T → Type 0
  SeatSetBelongsTo s l = AtEachIndex (IsSeatNumbered s.number) s.seats.items l.locks.items 0 8

  abbrev pub AreRootSeatsOf : RootSeats T → StripedLock T → Type 0
  AreRootSeatsOf f l = (0 < f.next) × AtEachIndex (IsRootSeat f.next) f.seats.items l.locks.items 0 8

  -- the seat of the lock at this index has observed this value
  abbrev pub SeatSetHasSeen : SeatSet T → ℕ → T → Type 0
  SeatSetHasSeen s i x = HasSeenAt s.seats.items i x

  abbrev pub RootSeatsHaveSeen : RootSeats T → ℕ → T → Type 0
  RootSeatsHaveSeen f i x = HasSeenAt f.seats.items i x

  -- only the seat at this index changed
  abbrev pub ChangedOnlyAt : ℕ → SeatSet T → SeatSet T → Type 0
  ChangedOnlyAt i old new = (j : ℕ) (s : Seat T) → j ≢ i
      → slice_index_or new.seats.items j s ≡ slice_index_or old.seats.items j s

  -- the seats still belong to the locks, with the same number, and only the seat at this index changed
  pub record IsSameSeatSet (l : StripedLock T) (i : ℕ) (old new : SeatSet T) : Type 0 where
    pub belongs : SeatSetBelongsTo new l
    pub number_unchanged : seat_set_number new ≡ seat_set_number old
    pub others_unchanged : ChangedOnlyAt i old new

  -- the new caller has the next number, which then grows by one; its seats have observed what the first seats have
  pub record IsNewSeatSet (blank : ℕ → T → Type 0) (l : StripedLock T) (old new : RootSeats T) (s : SeatSet T) : Type 0 where
    pub belongs : SeatSetBelongsTo s l
    pub has_number : seat_set_number s ≡ next_seat_set_number old
    pub below_max : next_seat_set_number old < 18446744073709551615
    pub next_grows : next_seat_set_number new ≡ next_seat_set_number old + 1
    pub seen : (i : ℕ) → i < 8
        → (x : T) × RootSeatsHaveSeen old i x × RootSeatsHaveSeen new i x × SeatSetHasSeen s i x × blank (seat_set_number s) x

  -- a refused split leaves the first seats unchanged; its reason is that the numbers are used up, or the memory
  pub record IsSplitRefusal (old new : RootSeats T) (e : SplitFault) : Type 0 where
    pub unchanged : new ≡ old
    pub numbers_exhausted : e ≡ OutOfNumbers → next_seat_set_number old ≡ 18446744073709551615
    pub memory : e ≡ OutOfMemory → next_seat_set_number old ≢ 18446744073709551615

  -- one of these callers has number k
  abbrev pub HasNumber : ℕ → List (SeatSet T) → Type 0
  HasNumber k callers = IsAmong k (map (λ s. s.number) callers)
