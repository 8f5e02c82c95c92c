-- Laws of seats: the observed value at an index, and replaced seats.
use Rattle.std.proofs.Common.{◌≡◌, ℕ, ◌<◌, List, [], ◌∷◌, length, slice_index_or, subst, arith}
use Rattle.std.proofs.lemmas.List.{get_or_default}
use Rattle.sdb_growlock.specs.declared.grow_lock.Seat.{Seat}
use Rattle.sdb_growlock.specs.SeatModel.{HasSeen}
use Rattle.sdb_growlock.specs.laws.SeatLaws.{observation_unique, observation_exists}
use Rattle.sdb_striped_lock.specs.AtIndex.{HasSeenAt}
use Rattle.sdb_striped_lock.specs.SeatSetModel.{SeatSetHasSeen, RootSeatsHaveSeen}
use Rattle.sdb_striped_lock.specs.declared.striped_lock.SeatSet.{SeatSet}
use Rattle.sdb_striped_lock.specs.declared.striped_lock.RootSeats.{RootSeats}

-- an item of a list that isn't empty
pub element_at : {A : Type 0} (xs : List A) (n : ℕ) → length xs ≡ n → 0 < n → A
element_at [] n e lt = absurd (omega (arith, e, lt))
element_at (x ∷ xs) n e lt = x

module _ {T : Type 0} where
  -- the observed value of the seat at an index, for any default
  pub seen_at_index : (seats : List (Seat T)) (i : ℕ) (s : Seat T) (x : T) → i < length seats
      → HasSeen (slice_index_or seats i s) x → HasSeenAt seats i x
  seen_at_index seats i s x lt h d = subst (λ (t : Seat T). HasSeen t x) (get_or_default seats i s d lt) h

  seen_unique : (seats : List (Seat T)) (i : ℕ) (x y : T) → length seats ≡ 8 → HasSeenAt seats i x → HasSeenAt seats i y → x ≡ y
  seen_unique seats i x y e h k =
      let s = element_at seats 8 e (omega arith) in observation_unique (slice_index_or seats i s) x y (h s) (k s)

  seen_exists : (seats : List (Seat T)) (i : ℕ) → length seats ≡ 8 → i < 8 → (x : T) × HasSeenAt seats i x
  seen_exists seats i e lt =
      let s = element_at seats 8 e (omega arith) in
      let x = observation_exists (slice_index_or seats i s) in
      (x.0, seen_at_index seats i s x.0 (omega (arith, e, lt)) x.1)

  -- the seats of a caller have observed one value at each index
  pub have_seen_unique : (s : SeatSet T) (i : ℕ) (x y : T) → SeatSetHasSeen s i x → SeatSetHasSeen s i y → x ≡ y
  have_seen_unique s i x y h k = seen_unique s.seats.items i x y s.has_every_stripe h k

  pub have_seen : (s : SeatSet T) (i : ℕ) → i < 8 → (x : T) × SeatSetHasSeen s i x
  have_seen s i lt = seen_exists s.seats.items i s.has_every_stripe lt

  pub root_has_seen : (f : RootSeats T) (i : ℕ) → i < 8 → (x : T) × RootSeatsHaveSeen f i x
  root_has_seen f i lt = seen_exists f.seats.items i f.has_every_stripe lt

  pub root_has_seen_unique : (f : RootSeats T) (i : ℕ) (x y : T) → RootSeatsHaveSeen f i x → RootSeatsHaveSeen f i y → x ≡ y
  root_has_seen_unique f i x y h k = seen_unique f.seats.items i x y f.has_every_stripe h k
