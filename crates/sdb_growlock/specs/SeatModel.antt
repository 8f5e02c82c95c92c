-- The definitions that contracts of a lock and its seats use.
use Rattle.std.specs.Prelude.{◌≡◌, ℕ, ◌+◌, List, map}
use Rattle.sdb_growlock.specs.LockRule.{HasObserved, IsAmong, sum_of}
use Rattle.sdb_growlock.specs.declared.grow_lock.GrowLock.{GrowLock}
use Rattle.sdb_growlock.specs.declared.grow_lock.Seat.{Seat}

module _ {T : Type 0} where
  -- the seat belongs to the lock
  abbrev pub BelongsTo : Seat T → GrowLock T → Type 0
  BelongsTo s l = s.inner.table_id ≡ l.table.shared.table_id

  -- the seat's number
  abbrev pub number : Seat T → ℕ
  number s = s.number

  -- the number of the lock's seats for its first seat, 0 for any other
  abbrev pub next : Seat T → ℕ
  next s = s.next

  -- the seat has observed this value last
  abbrev pub HasSeen : Seat T → T → Type 0
  HasSeen s x = HasObserved s.inner.me.0 s.number x

  -- the number of the lock's seats, from the first seat among these
  abbrev pub seat_count : List (Seat T) → ℕ
  seat_count ss = sum_of (map (λ s. s.next) ss)

  -- one of these seats has number k
  abbrev pub HasNumber : ℕ → List (Seat T) → Type 0
  HasNumber k ss = IsAmong k (map (λ s. s.number) ss)

  -- three seats have observed this value, without a part of the last one's number
  abbrev pub SeeSameBlankValue : (ℕ → T → Type 0) → Seat T → Seat T → Seat T → Type 0
  SeeSameBlankValue blank a b c = (x : T) × HasSeen a x × HasSeen b x × HasSeen c x × blank (number c) x

  -- the first seat of a new lock has number 0 and this next number, and has observed this value
  pub record IsFirstSeat (l : GrowLock T) (k : ℕ) (x : T) (s : Seat T) : Type 0 where
    pub belongs : BelongsTo s l
    pub has_number : number s ≡ 0
    pub has_next : next s ≡ k
    pub has_seen : HasSeen s x

  -- the seat still belongs to the lock, with the same number and the same next number
  pub record IsSameSeat (l : GrowLock T) (old new : Seat T) : Type 0 where
    pub belongs : BelongsTo new l
    pub number_unchanged : number new ≡ number old
    pub next_unchanged : next new ≡ next old

  -- the new seat has the first seat's next number, which then grows by one; both have observed one value
  pub record IsNewSeat (blank : ℕ → T → Type 0) (l : GrowLock T) (old new s : Seat T) : Type 0 where
    pub belongs : BelongsTo s l
    pub has_number : number s ≡ next old
    pub has_no_next : next s ≡ 0
    pub first_number_unchanged : number new ≡ number old
    pub first_next_grows : next new ≡ next old + 1
    pub seen : SeeSameBlankValue blank old new s
