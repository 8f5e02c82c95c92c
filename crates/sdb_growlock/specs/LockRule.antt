-- The rule of the table, and the effect of each step.
use Rattle.std.specs.Prelude.{◌≡◌, ◌≢◌, ◌⊎◌, ℕ, ◌+◌, ◌<◌, ◌≤◌, Bool, true, false, List, [], ◌∷◌, ◌++◌, map, length, slice_index, Option, Some, None}
use mathlib.Core.Option.{some}
use lib.ListN.{get_elem?}
use Rattle.atomic_table.specs.Table.{State, Me, Step}
use Rattle.sdb_growlock.specs.declared.view.View.{View}
use Rattle.sdb_growlock.specs.declared.view.Observation.{Observation}

abbrev pub ForEach : {A : Type 0} → (A → Type 0) → List A → Type 0
ForEach P [] = Unit {0}
ForEach P (x ∷ xs) = P x × ForEach P xs

module _ {T : Type 0} where
  abbrev pub observation : ℕ → T → Observation T
  observation n x = record { number = n; value = x }

  -- a seat that doesn't hold the lock
  abbrev pub idle_view : ℕ → T → ℕ → View T
  idle_view n x k = record { seen = observation n x ∷ []; out = None; next = k; notes = [] }

  -- a seat that holds the lock
  abbrev pub holder_view : ℕ → T → ℕ → View T
  holder_view n x k = record { seen = observation n x ∷ []; out = Some x; next = k; notes = [] }

  -- this value observed under each of the numbers
  abbrev pub observe_all : T → List (Observation T) → List (Observation T)
  observe_all v l = map (λ p. observation p.number v) l

  abbrev pub acquired_view : View T → T → View T
  acquired_view d v = record { seen = observe_all v d.seen; out = Some v; next = d.next; notes = d.notes }

  abbrev pub released_view : View T → T → View T
  released_view d v = record { seen = observe_all v d.seen; out = None; next = d.next; notes = d.notes }

  -- a view without its notes
  abbrev pub without_notes : View T → View T
  without_notes d = record { seen = d.seen; out = d.out; next = d.next; notes = [] }

  abbrev pub number_of : Observation T → ℕ
  number_of p = p.number

  abbrev pub is_out : Option T → Bool
  is_out (Some x) = true
  is_out None = false

  -- in this view, the value was observed under the seat's number
  abbrev pub HasObserved : View T → ℕ → T → Type 0
  HasObserved v n x = v.seen ≡ observation n x ∷ []

module _ {T : Type 0} (extends : T → T → Type 0) (same : ℕ → T → T → Type 0) (blank : ℕ → T → Type 0) where
  -- an observation that fits the value and the seats
  pub record ObservationFits (value : T) (next : ℕ) (owner : ℕ → ℕ) (j : ℕ) (p : Observation T) : Type 0 where
    pub below_next : p.number < next
    pub owner_is : owner p.number ≡ j
    pub extends_observed : extends value p.value
    pub same_as_observed : same p.number p.value value
    pub blank_above : (k : ℕ) → next ≤ k → blank k p.value

  pub record ViewInvariant (word : ℕ) (value : T) (next : ℕ) (owner : ℕ → ℕ) (turn j : ℕ) (d : View T) : Type 0 where
    pub observations_fit : ForEach (ObservationFits value next owner j) d.seen
    pub out : (x : T) → d.out ≡ Some x → (word ≢ 0) × (x ≡ value) × (owner turn ≡ j)
    pub first_has_next : d.next ≢ 0 → (d.next ≡ next) × (owner 0 ≡ j)
    pub notes_extended : ForEach (extends value) d.notes

  pub record LockInvariant (s : State (Option T) (View T)) : Type 0 where
    pub value : T
    pub next : ℕ
    pub owner : ℕ → ℕ
    pub holder_number : ℕ
    pub one_word : length s.words ≡ 1
    pub blank_above : (k : ℕ) → next ≤ k → blank k value
    pub views_known : (j : ℕ) (d : View T) → get_elem? s.views j ≡ some d → ViewInvariant (slice_index s.words 0) value next owner holder_number j d
    pub value_at_home : slice_index s.words 0 ≡ 0 → get_elem? s.homes 0 ≡ some (some (Some value))
    pub value_is_out : slice_index s.words 0 ≢ 0 → (holder_number < next) × ((d : View T) × (get_elem? s.views (owner holder_number) ≡ some d) × (d.out ≡ Some value))

  abbrev pub SeatState : Type 0
  SeatState = Me (Option T) (View T)

  -- the value moved to the seat
  abbrev pub AcquiresValue : SeatState → SeatState → Type 0
  AcquiresValue m m' = (v : T) × (m' ≡ (acquired_view m.0 v, (0, Some v) ∷ m.1)) × ForEach (λ p. extends v p.value × same p.number p.value v) m.0.seen

  abbrev pub acquire_step : Step (Option T) → SeatState → ℕ → SeatState → Type 0
  acquire_step st m r m' = (r ≡ 0 → AcquiresValue m m') × (r ≢ 0 → m' ≡ m)

  abbrev pub release_step : Step (Option T) → SeatState → ℕ → SeatState → Type 0
  release_step st m r m' = (w : T) → m.1 ≡ (0, Some w) ∷ [] → m' ≡ (released_view m.0 w, [])

  -- the seat observes that the value has no part of its next number
  abbrev pub read_step : Step (Option T) → SeatState → ℕ → SeatState → Type 0
  read_step st m r m' = (m' ≡ m) × (m.0.next ≢ 0 → ForEach (λ p. blank m.0.next p.value) m.0.seen)

  -- the seat observes that one value extends what it has observed and its notes, and drops the notes
  abbrev pub compare_step : Step (Option T) → SeatState → ℕ → SeatState → Type 0
  compare_step st m r m' =
      (m' ≡ (without_notes m.0, m.1))
      × ((v : T) × ForEach (λ p. extends v p.value) m.0.seen × ForEach (extends v) m.0.notes)

module _ {T : Type 0} where
  -- the first seat after a split, and the new seat
  abbrev pub splitter_view : View T → View T
  splitter_view d = record { seen = d.seen; out = d.out; next = d.next + 1; notes = d.notes }

  abbrev pub split_off_view : View T → View T
  split_off_view d = record { seen = map (λ p. observation d.next p.value) d.seen; out = None; next = 0; notes = [] }

  -- a seat after a join, and the joined one
  abbrev pub join_views : View T → View T → View T
  join_views d e = record { seen = d.seen ++ e.seen; out = d.out; next = d.next + e.next; notes = d.notes ++ e.notes }

  abbrev pub empty_view : View T
  empty_view = record { seen = []; out = None; next = 0; notes = [] }

  -- a view without a number, which has a seat's observed values as notes
  abbrev pub note_view : View T → View T
  note_view d = record { seen = []; out = None; next = 0; notes = map (λ p. p.value) d.seen }

  -- a seat after the join of all others, the last of the list first
  abbrev pub join_all_views : View T → List (View T) → View T
  join_all_views d [] = d
  join_all_views d (e ∷ es) = join_views (join_all_views d es) e

-- k is one of the numbers
abbrev pub IsAmong : ℕ → List ℕ → Type 0
IsAmong k [] = ⊥
IsAmong k (x ∷ xs) = (x ≡ k) ⊎ IsAmong k xs

abbrev pub sum_of : List ℕ → ℕ
sum_of [] = 0
sum_of (x ∷ xs) = x + sum_of xs
