-- The contents of an audit, given all passes.
use Rattle.std.proofs.Common.{◌≡◌, ℕ, zero, suc, ◌<◌, ◌≤◌, ◌⊎◌, inl, inr, Bool, true, false, nat_lt, List, [], ◌∷◌, length, map, slice_index_or, slice_get, Some, None, Contains, refl, sym, ◌∙◌, subst, arith}
use Rattle.std.specs.List.{All}
use Rattle.std.specs.List.Sorted.{IsPermutation}
use Rattle.std.proofs.lemmas.Bool.{ltb-true, ltb-false}
use Rattle.std.proofs.lemmas.List.Sorted.{All-permutation, Contains-permutation, IsPermutation-map, IsPermutation-sym}
use Rattle.std.proofs.lemmas.Option.{slice_get_cases, get_or_from_slice_get}
use Rattle.sdb_growlock.specs.LockRule.{ForEach, IsAmong}
use Rattle.sdb_desk.specs.ShardView.{machine_of}
use Rattle.sdb_striped_lock.specs.CloseModel.{IsCloseResult, ExtendsAndKeeps}
use Rattle.sdb_striped_lock.specs.SeatSetModel.{SeatSetBelongsTo, HasNumber}
use Rattle.sdb_striped_lock.specs.declared.striped_lock.StripedLock.{StripedLock}
use Rattle.sdb_striped_lock.specs.declared.striped_lock.SeatSet.{SeatSet}
use Rattle.sdb_backend.specs.HistoryOrder.{Extends, share_of, empty_share}
use Rattle.sdb_backend.specs.PassModel.{pass_number, next_pass_number, HasSeatsOf, HasRootSeatsOf, PassHasSeenShard, HasEveryPass}
use Rattle.sdb_backend.specs.declared.shard_value.Held.{Held}
use Rattle.sdb_backend.specs.declared.pass.Pass.{Pass}
use Rattle.sdb_backend.specs.declared.pass.Host.{Host}

-- ---- lists

each_all : {A : Type 0} (P : A → Type 0) (xs : List A) → ForEach P xs → All P xs
each_all P [] h k d lt = absurd (omega (arith, lt))
each_all P (x ∷ xs) h zero d lt = h.0
each_all P (x ∷ xs) h (suc k) d lt = each_all P xs h.1 k d (omega (arith, lt))

all_each : {A : Type 0} (P : A → Type 0) (xs : List A) → All P xs → ForEach P xs
all_each P [] h = tt
all_each P (x ∷ xs) h = (h zero x (omega arith), all_each P xs (λ k d lt. h (suc k) d (omega (arith, lt))))

pub each_permuted : {A : Type 0} (P : A → Type 0) (xs ys : List A) → IsPermutation xs ys → ForEach P xs → ForEach P ys
each_permuted P xs ys p h = all_each P ys (All-permutation P xs ys p (each_all P xs h))

pub for_each_of_all : {A : Type 0} (P : A → Type 0) (xs ys : List A) → IsPermutation xs ys → ForEach P ys → ForEach P xs
for_each_of_all P xs ys p h = each_permuted P ys xs (IsPermutation-sym xs ys p) h

among_at : (k j : ℕ) (xs : List ℕ) → j < length xs → slice_index_or xs j k ≡ k → IsAmong k xs
among_at k j [] lt e = absurd (omega (arith, lt))
among_at k zero (x ∷ xs) lt e = inl e
among_at k (suc j) (x ∷ xs) lt e = inr (among_at k j xs (omega (arith, lt)) e)

-- ---- passes

abbrev pub seats_of : List Pass → List (SeatSet Held)
seats_of ps = map (λ p. p.seats) ps

pub all_of : (l : StripedLock Held) (ps : List Pass) → ForEach (λ p. HasSeatsOf p l) ps → ForEach (λ c. SeatSetBelongsTo c l) (seats_of ps)
all_of l [] h = tt
all_of l (p ∷ ps) h = (h.0, all_of l ps h.1)

among_seats : (k : ℕ) (ps : List Pass) → IsAmong k (map pass_number ps) → HasNumber k (seats_of ps)
among_seats k [] h = h
among_seats k (p ∷ ps) (inl e) = inl e
among_seats k (p ∷ ps) (inr h) = inr (among_seats k ps h)

-- all numbers are present, in any order of the passes
pub numbers_there : (next : ℕ) (ps qs : List Pass) → IsPermutation ps qs → HasEveryPass next ps → (k : ℕ) → 0 < k → k < next → HasNumber k (seats_of qs)
numbers_there next ps qs p all k some lt =
    let c = Contains-permutation (map pass_number ps) (map pass_number qs) k (IsPermutation-map pass_number ps qs p) (all k some lt) in
    among_seats k qs (among_at k c.0 (map pass_number qs) c.1 c.2)

pub length_seats : (ps : List Pass) → length (seats_of ps) ≡ length ps
length_seats [] = refl
length_seats (p ∷ ps) = let h = length_seats ps in omega (arith, h)

-- ---- the value of each shard

abbrev pub ExtendsHeld : Held → Held → Type 0
ExtendsHeld new old = Extends (machine_of new.shard) (machine_of old.shard)

abbrev pub SameHeld : ℕ → Held → Held → Type 0
SameHeld n a b = share_of n (machine_of a.shard) ≡ share_of n (machine_of b.shard)

abbrev pub BlankHeld : ℕ → Held → Type 0
BlankHeld n a = share_of n (machine_of a.shard) ≡ empty_share

-- the shard at an index
shard_at : (shards : List Held) (i : ℕ) (v : Held) → slice_get shards i ≡ Some v → (i < length shards) × (slice_index_or shards i v ≡ v)
shard_at shards i v is = shard_at_or_none ((slice_get_cases shards i).1) where
  shard_at_or_none : ((x : Held) × (i < length shards) × (slice_get shards i ≡ Some x) × (slice_index_or shards i x ≡ x)) ⊎ ((length shards ≤ i) × (slice_get shards i ≡ None))
      → (i < length shards) × (slice_index_or shards i v ≡ v)
  shard_at_or_none (inl y) = (y.1, get_or_from_slice_get shards i v v is)
  shard_at_or_none (inr y) = let e : Some v ≡ None = sym is ∙ y.1 in cc

abbrev pub AreAllClosed : Host → List Pass → List Held → Type 0
AreAllClosed h ps shards =
    (length shards ≡ 8)
    × ((i : ℕ) (d : Held) → i < 8 → IsCloseResult ExtendsHeld SameHeld BlankHeld h.seats (seats_of ps) i (slice_index_or shards i d))

unchanged_by : (i : ℕ) (v : Held) (ps : List Pass) → ForEach (λ c. ExtendsAndKeeps ExtendsHeld SameHeld BlankHeld i c.number c.seats.items v) (seats_of ps)
    → ForEach (λ p. (x : Held) → PassHasSeenShard p i x → ExtendsHeld v x × SameHeld (pass_number p) x v) ps
unchanged_by i v [] h = tt
unchanged_by i v (p ∷ ps) h = (h.0, unchanged_by i v ps h.1)

-- at each index, for each pass
abbrev pub KeepsAtEach : List Held → Pass → Type 0
KeepsAtEach shards p = (i : ℕ) (v x : Held) → slice_get shards i ≡ Some v → PassHasSeenShard p i x → ExtendsHeld v x × SameHeld (pass_number p) x v

each_of : (shards : List Held) (ps : List Pass) → ((i : ℕ) (v : Held) → slice_get shards i ≡ Some v → ForEach (λ p. (x : Held) → PassHasSeenShard p i x → ExtendsHeld v x × SameHeld (pass_number p) x v) ps)
    → ForEach (KeepsAtEach shards) ps
each_of shards [] h = tt
each_of shards (p ∷ ps) h = ((λ i v x is saw. (h i v is).0 x saw), each_of shards ps (λ i v is. (h i v is).1))

pub seen_by : (h : Host) (ps : List Pass) (shards : List Held) → AreAllClosed h ps shards → ForEach (KeepsAtEach shards) ps
seen_by h ps shards closed =
    each_of shards ps
    (λ i v is.
    let at = shard_at shards i v is in
    let lt = at.0 in
    let e = closed.0 in
    subst (λ (w : Held). ForEach (λ p. (x : Held) → PassHasSeenShard p i x → ExtendsHeld w x × SameHeld (pass_number p) x w) ps) at.1
    (unchanged_by i (slice_index_or shards i v) ps (closed.1 i v (omega (arith, lt, e))).others))

closed_under_number : (b : Bool) (h : Host) (l : StripedLock Held) (ps : List Pass) (n i : ℕ) (v : Held) → nat_lt n (next_pass_number h) ≡ b → i < 8 → HasRootSeatsOf h l
    → ((k : ℕ) → 0 < k → k < next_pass_number h → Contains (map pass_number ps) k) → IsCloseResult ExtendsHeld SameHeld BlankHeld h.seats (seats_of ps) i v
    → (Contains (map pass_number ps) n → ⊥) → BlankHeld n v
closed_under_number true h l ps zero i v is lt host all c none =
    let x = host.1 i lt in
    sym ((c.extends_root x.0 x.1).1) ∙ x.2
closed_under_number true h l ps (suc n) i v is lt host all c none = absurd (none (all (suc n) (omega arith) (ltb-true (suc n) (next_pass_number h) is)))
closed_under_number false h l ps n i v is lt host all c none = c.blank_elsewhere n (ltb-false n (next_pass_number h) is)

pub nothing_else : (h : Host) (l : StripedLock Held) (ps : List Pass) (shards : List Held) → HasRootSeatsOf h l → HasEveryPass (next_pass_number h) ps → AreAllClosed h ps shards
    → (n i : ℕ) (v : Held) → slice_get shards i ≡ Some v → (Contains (map pass_number ps) n → ⊥) → BlankHeld n v
nothing_else h l ps shards host all closed n i v is none =
    let at = shard_at shards i v is in
    let lt = at.0 in
    let e = closed.0 in
    subst (BlankHeld n) at.1 (closed_under_number (nat_lt n (next_pass_number h)) h l ps n i (slice_index_or shards i v) refl (omega (arith, lt, e)) host all (closed.1 i v (omega (arith, lt, e))) none)

pub all_permuted : (next : ℕ) (ps qs : List Pass) → IsPermutation ps qs → HasEveryPass next ps → HasEveryPass next qs
all_permuted next ps qs p all k some lt = Contains-permutation (map pass_number ps) (map pass_number qs) k (IsPermutation-map pass_number ps qs p) (all k some lt)

pub none_permuted : (n : ℕ) (ps qs : List Pass) → IsPermutation ps qs → (Contains (map pass_number ps) n → ⊥) → Contains (map pass_number qs) n → ⊥
none_permuted n ps qs p none c =
    none (Contains-permutation (map pass_number qs) (map pass_number ps) n (IsPermutation-map pass_number qs ps (IsPermutation-sym ps qs p)) c)
