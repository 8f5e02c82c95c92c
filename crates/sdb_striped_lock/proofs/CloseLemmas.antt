-- The seats of the first caller and of all others at one index.
use Rattle.std.proofs.Common.{◌≡◌, ℕ, zero, suc, ◌<◌, inl, inr, List, [], ◌∷◌, map, slice_index_or, refl, ◌∙◌, subst, arith}
use Rattle.sdb_growlock.specs.LockRule.{ForEach, IsAmong}
use Rattle.sdb_growlock.specs.SeatModel.{BelongsTo, HasSeen, HasNumber, seat_count}
use Rattle.sdb_growlock.specs.SeatModel as one
use Rattle.sdb_growlock.specs.declared.grow_lock.Seat.{Seat}
use Rattle.sdb_growlock.specs.declared.grow_lock.GrowLock.{GrowLock}
use Rattle.sdb_striped_lock.specs.CloseModel.{HasEverySeat, IsCloseResult, ExtendsAndKeeps, IsValueAfterClose}
use Rattle.sdb_striped_lock.specs.SeatSetModel.{SeatSetBelongsTo, IsSeatNumbered, IsRootSeat}
use Rattle.sdb_striped_lock.specs.declared.striped_lock.StripedLock.{StripedLock}
use Rattle.sdb_striped_lock.specs.declared.striped_lock.SeatSet.{SeatSet}
use Rattle.sdb_striped_lock.specs.declared.striped_lock.RootSeats.{RootSeats}

module _ {T : Type 0} (i : ℕ) (d : Seat T) where
  -- the seat of a caller
  abbrev pub seat_at : SeatSet T → Seat T
  seat_at c = slice_index_or c.seats.items i d

  abbrev pub seats_at : List (SeatSet T) → List (Seat T)
  seats_at cs = map (λ c. slice_index_or c.seats.items i d) cs

  pub belongs_all : (l : GrowLock T) (cs : List (SeatSet T)) → ForEach (λ c. IsSeatNumbered c.number (seat_at c) l) cs → ForEach (λ s. BelongsTo s l) (seats_at cs)
  belongs_all l [] h = tt
  belongs_all l (c ∷ cs) h = (h.0.0, belongs_all l cs h.1)

  pub sum_of_zero : (l : GrowLock T) (cs : List (SeatSet T)) → ForEach (λ c. IsSeatNumbered c.number (seat_at c) l) cs → seat_count (seats_at cs) ≡ 0
  sum_of_zero l [] h = refl
  sum_of_zero l (c ∷ cs) h = let a = h.0.2 in let b = sum_of_zero l cs h.1 in omega (arith, a, b)

  pub is_among_numbers : (l : GrowLock T) (k : ℕ) (cs : List (SeatSet T)) → ForEach (λ c. IsSeatNumbered c.number (seat_at c) l) cs → IsAmong k (map (λ c. c.number) cs) → HasNumber k (seats_at cs)
  is_among_numbers l k [] h a = a
  is_among_numbers l k (c ∷ cs) h (inl e) = inl (h.0.1 ∙ e)
  is_among_numbers l k (c ∷ cs) h (inr a) = inr (is_among_numbers l k cs h.1 a)

  -- all seats of the lock at this index are present
  has_number : (l : GrowLock T) (k next : ℕ) (first : Seat T) (cs : List (SeatSet T)) → IsRootSeat next first l → ForEach (λ c. IsSeatNumbered c.number (seat_at c) l) cs
      → ((k : ℕ) → 0 < k → k < next → IsAmong k (map (λ c. c.number) cs)) → k < next → HasNumber k (first ∷ seats_at cs)
  has_number l zero next first cs f h all lt = inl f.1
  has_number l (suc k) next first cs f h all lt = inr (is_among_numbers l (suc k) cs h (all (suc k) (omega arith) lt))

  pub count_of_seats : (l : GrowLock T) (next : ℕ) (first : Seat T) (cs : List (SeatSet T)) → IsRootSeat next first l → ForEach (λ c. IsSeatNumbered c.number (seat_at c) l) cs → seat_count (first ∷ seats_at cs) ≡ next
  count_of_seats l next first cs f h = let a = f.2 in let b = sum_of_zero l cs h in omega (arith, a, b)

  pub every_seat_present : (l : GrowLock T) (next : ℕ) (first : Seat T) (cs : List (SeatSet T)) → 0 < next → IsRootSeat next first l → ForEach (λ c. IsSeatNumbered c.number (seat_at c) l) cs
      → ((k : ℕ) → 0 < k → k < next → IsAmong k (map (λ c. c.number) cs)) → HasEverySeat (first ∷ seats_at cs)
  every_seat_present l next first cs some f h all =
      let n = count_of_seats l next first cs f h in
      (omega (arith, n, some), λ k lt. has_number l k next first cs f h all (omega (arith, n, lt)))

-- the facts of all locks at one index
pub for_each_at_index : {T : Type 0} (locks : StripedLock T) (cs : List (SeatSet T)) (i : ℕ) (d : Seat T) (l : GrowLock T) → i < 8 → ForEach (λ c. SeatSetBelongsTo c locks) cs
    → ForEach (λ c. IsSeatNumbered c.number (slice_index_or c.seats.items i d) (slice_index_or locks.locks.items i l)) cs
for_each_at_index locks [] i d l lt h = tt
for_each_at_index locks (c ∷ cs) i d l lt h = (h.0 i d l (omega arith) lt, for_each_at_index locks cs i d l lt h.1)

module _ {T : Type 0} (extends : T → T → Type 0) (same : ℕ → T → T → Type 0) (blank : ℕ → T → Type 0) where
  preserves_each : (l : GrowLock T) (i : ℕ) (d : Seat T) (cs : List (SeatSet T)) (v : T) → ForEach (λ c. IsSeatNumbered c.number (slice_index_or c.seats.items i d) l) cs
      → ForEach (λ s. (x : T) → HasSeen s x → extends v x × same (one.number s) x v) (map (λ c. slice_index_or c.seats.items i d) cs)
      → ForEach (λ c. ExtendsAndKeeps extends same blank i c.number c.seats.items v) cs
  preserves_each l i d [] v own h = tt
  preserves_each l i d (c ∷ cs) v own h =
      ((λ x saw. let k = h.0 x (saw d) in (k.0, subst (λ (n : ℕ). same n x v) own.0.1 k.1)), preserves_each l i d cs v own.1 h.1)

  pub close_relation : (l : GrowLock T) (i : ℕ) (d : Seat T) (f : RootSeats T) (cs : List (SeatSet T)) (v : T) → IsRootSeat f.next (slice_index_or f.seats.items i d) l
      → ForEach (λ c. IsSeatNumbered c.number (slice_index_or c.seats.items i d) l) cs
      → IsValueAfterClose extends same blank (slice_index_or f.seats.items i d ∷ map (λ c. slice_index_or c.seats.items i d) cs) v → IsCloseResult extends same blank f cs i v
  close_relation l i d f cs v first own h =
      let n = count_of_seats i d l f.next (slice_index_or f.seats.items i d) cs first own in
      record {
        extends_root = λ x saw. let k = h.0.0 x (saw d) in (k.0, subst (λ (n : ℕ). same n x v) first.1 k.1);
        others = preserves_each l i d cs v own h.0.1;
        blank_elsewhere = λ k le. h.1 k (omega (arith, n, le));
      }
