-- Ring buffers of a log, and the entries that a take reads from both.
use Rattle.std.proofs.Common.{◌≡◌, ℕ, zero, suc, ◌+◌, ◌-◌, ◌<◌, ◌≤◌, min, ◌⊎◌, inl, inr, Bool, true, false, cond, List, [], ◌∷◌, ◌++◌, take, drop, length, Option, Some, slice_get, nat_eq, refl, sym, ap, ◌∙◌, subst, arith, drop-drop, length-append, length-drop}
use Rattle.std.specs.Map.{keys_of, lookup, remove_entry, set_value}
use Rattle.std.specs.Map.Calls.{RetainsPairs}
use Rattle.std.proofs.lemmas.List.{drop_all, drop-append-le, length-take, nil_from_length, take_min, take-append-drop}
use Rattle.circular_buffer.specs.Buffer.{keep_last}
use Rattle.sdb_oplog.specs.Plain.{PlainEntry}
use Rattle.sdb_subscribe.specs.Queue.{PlainQueue, pending_entries, advance}
use Rattle.sdb_subscribe.specs.Ring.{RingedQueue, next_version, queues_without_rings, IsRingOfLog, AreRingsOfLog, IsPushed, ArePushed, advance_ringed_queue}
use Rattle.sdb_subscribe.proofs.QueueMapLemmas.{QueueEntry}

-- ---- ring buffers of a log

pub fits_empty : (log : List PlainEntry) (q : RingedQueue) → q.ring ≡ [] → IsRingOfLog log q
fits_empty log q e =
    let z : length q.ring ≡ 0 = ap length e in
    let all : length log ≤ length log - length q.ring = omega (arith, z) in
    record { at_most_64 = omega (arith, z); not_longer_than_log = omega (arith, z); is_log_suffix = e ∙ sym (drop_all (length log - length q.ring) log all); not_before_position = λ some. absurd (omega (arith, z, some)) }

-- the ring buffer at a later position is the rest of it
pub fits_dropped : (log : List PlainEntry) (q : RingedQueue) (w : PlainQueue) → IsRingOfLog log q → IsRingOfLog log (record { queue = w; ring = keep_last (length log - next_version w) q.ring })
fits_dropped log q w f =
    let n = length log in
    let k = length q.ring in
    let r = n - next_version w in
    let few = f.at_most_64 in
    let within = f.not_longer_than_log in
    let len : length (drop (k - r) q.ring) ≡ k - (k - r) = length-drop (k - r) q.ring in
    let from : n - length (drop (k - r) q.ring) ≡ (n - k) + (k - r) = omega (arith, len, within) in
    record {
      at_most_64 = omega (arith, len, few);
      not_longer_than_log = omega (arith, len, within);
      is_log_suffix = ap (drop (k - r)) f.is_log_suffix ∙ drop-drop (k - r) (n - k) log ∙ ap (λ i. drop i log) (sym from);
      not_before_position = λ some. omega (arith, len, some);
    }

pub fits_moved : (log : List PlainEntry) (max : ℕ) (q : RingedQueue) → IsRingOfLog log q → IsRingOfLog log (advance_ringed_queue log max q)
fits_moved log max q f = fits_dropped log q (advance log max q.queue) f

ahead_or : (k p n : ℕ) → (0 < k → p + k ≤ n) → (k ≡ 0) ⊎ (p + k ≤ n)
ahead_or zero p n h = inl refl
ahead_or (suc k) p n h = inr (h (omega arith))

longer_or : (k p n m l : ℕ) → (k ≡ 0) ⊎ (p + k ≤ n) → p ≤ n → m ≤ k + 1 → l ≡ n + 1 → p + m ≤ l
longer_or k p n m l (inl z) at len most = omega arith
longer_or k p n m l (inr f) at len most = omega arith

longer_ahead : (k p n m l : ℕ) → (0 < k → p + k ≤ n) → p ≤ n → m ≤ k + 1 → l ≡ n + 1 → p + m ≤ l
longer_ahead k p n m l ahead = longer_or k p n m l (ahead_or k p n ahead)

beyond_or : (k p n : ℕ) → (k ≡ 0) ⊎ (p + k ≤ n) → n < p → k ≡ 0
beyond_or k p n (inl z) beyond = z
beyond_or k p n (inr f) beyond = omega arith

-- a ring buffer after a push of the newest entry
ring_after_push : (log : List PlainEntry) (e : PlainEntry) (q new : RingedQueue) → IsRingOfLog log q → next_version new.queue ≤ length log → (0 < length q.ring → next_version new.queue + length q.ring ≤ length log) → new.ring ≡ keep_last 64 (q.ring ++ e ∷ []) → IsRingOfLog (log ++ e ∷ []) new
ring_after_push log e q new f at ahead is =
    let n = length log in
    let k = length q.ring in
    let few = f.at_most_64 in
    let within = f.not_longer_than_log in
    let more = length-append q.ring (e ∷ []) in
    let most = length-append log (e ∷ []) in
    let m = length (q.ring ++ e ∷ []) - 64 in
    let len : length new.ring ≡ length (q.ring ++ e ∷ []) - m = ap length is ∙ length-drop m (q.ring ++ e ∷ []) in
    let both : q.ring ++ e ∷ [] ≡ drop (n - k) (log ++ e ∷ []) =
    ap (λ l. l ++ e ∷ []) f.is_log_suffix ∙ sym (drop-append-le (n - k) log (e ∷ []) (omega arith)) in
    let from : length (log ++ e ∷ []) - length new.ring ≡ (n - k) + m = omega (arith, len, more, most, within, few) in
    record {
      at_most_64 = omega (arith, len, more, few);
      not_longer_than_log = omega (arith, len, more, most, within, few);
      is_log_suffix = is ∙ ap (drop m) both ∙ drop-drop m (n - k) (log ++ e ∷ []) ∙ ap (λ i. drop i (log ++ e ∷ [])) (sym from);
      not_before_position = λ some. longer_ahead k (next_version new.queue) n (length new.ring) (length (log ++ e ∷ [])) ahead at (omega (arith, len, more)) most;
    }

taken_in : (log : List PlainEntry) (e : PlainEntry) (q new : RingedQueue) → IsRingOfLog log q → next_version new.queue ≤ length log → (0 < length q.ring → next_version new.queue + length q.ring ≤ length log)
    → (new.ring ≡ keep_last 64 (q.ring ++ e ∷ [])) ⊎ (new.ring ≡ []) → IsRingOfLog (log ++ e ∷ []) new
taken_in log e q new f at ahead (inl is) = ring_after_push log e q new f at ahead is
taken_in log e q new f at ahead (inr is) = fits_empty (log ++ e ∷ []) new is

noted_or : (log : List PlainEntry) (e : PlainEntry) (q new : RingedQueue) → IsRingOfLog log q → e.version ≡ length log → new.queue ≡ q.queue
    → ((e.version < next_version q.queue) × (new.ring ≡ q.ring)) ⊎ ((next_version q.queue ≤ e.version) × ((new.ring ≡ keep_last 64 (q.ring ++ e ∷ [])) ⊎ (new.ring ≡ []))) → IsRingOfLog (log ++ e ∷ []) new
noted_or log e q new f at same (inl h) =
    let ahead = f.not_before_position in
    let beyond = h.0 in
    let none : length q.ring ≡ 0 = beyond_or (length q.ring) (next_version q.queue) (length log) (ahead_or (length q.ring) (next_version q.queue) (length log) ahead) (omega (arith, beyond, at)) in
    fits_empty (log ++ e ∷ []) new (h.1 ∙ nil_from_length q.ring none)
noted_or log e q new f at same (inr h) =
    let before = h.0 in
    let P : PlainQueue → Type 0 = λ w. (next_version w ≤ length log) × (0 < length q.ring → next_version w + length q.ring ≤ length log) in
    let there : P new.queue = subst P (sym same) (omega (arith, before, at), f.not_before_position) in
    taken_in log e q new f there.0 there.1 h.1

pub fits_noted : (log : List PlainEntry) (e : PlainEntry) (q new : RingedQueue) → IsRingOfLog log q → e.version ≡ length log → IsPushed e q new → IsRingOfLog (log ++ e ∷ []) new
fits_noted log e q new f at is = noted_or log e q new f at is.queue is.ring

-- ---- all ring buffers

some_is : (x q : RingedQueue) → Some x ≡ Some q → x ≡ q
some_is x q e = cc

at_or : (log : List PlainEntry) (b : Bool) (x q : RingedQueue) (o : Option RingedQueue) → IsRingOfLog log x → (o ≡ Some q → IsRingOfLog log q) → cond b (Some x) o ≡ Some q → IsRingOfLog log q
at_or log true x q o f h e = subst (IsRingOfLog log) (some_is x q e) f
at_or log false x q o f h e = h e

pub fit_at : (log : List PlainEntry) (n : ℕ) (es : List QueueEntry) (q : RingedQueue) → AreRingsOfLog log es → lookup (nat_eq n) es ≡ Some q → IsRingOfLog log q
fit_at log n [] q f h = cc
fit_at log n (e ∷ es) q f h = at_or log (nat_eq n e.0) e.1 q (lookup (nat_eq n) es) f.0 (λ r. fit_at log n es q f.1 r) h

pub fit_set : (log : List PlainEntry) (n : ℕ) (es : List QueueEntry) (w : RingedQueue) → AreRingsOfLog log es → IsRingOfLog log w → AreRingsOfLog log (set_value (nat_eq n) es w)
fit_set log n [] w f g = tt
fit_set log n (e ∷ es) w f g = elim (nat_eq n e.0) as (λ b. AreRingsOfLog log (cond b ((e.0, w) ∷ es) (e ∷ set_value (nat_eq n) es w))) [
  | true ↦ (g, f.1)
  | false ↦ (f.0, fit_set log n es w f.1 g)
]

pub fit_without : (log : List PlainEntry) (n : ℕ) (es : List QueueEntry) → AreRingsOfLog log es → AreRingsOfLog log (remove_entry (nat_eq n) es)
fit_without log n [] f = tt
fit_without log n (e ∷ es) f = elim (nat_eq n e.0) as (λ b. AreRingsOfLog log (cond b es (e ∷ remove_entry (nat_eq n) es))) [
  | true ↦ f.1
  | false ↦ (f.0, fit_without log n es f.1)
]

pub fit_added : (log : List PlainEntry) (es : List QueueEntry) (e : QueueEntry) → AreRingsOfLog log es → IsRingOfLog log e.1 → AreRingsOfLog log (es ++ e ∷ [])
fit_added log [] e f g = (g, tt)
fit_added log (x ∷ es) e f g = (f.0, fit_added log es e f.1 g)

-- ---- ring buffers after a push

pub noted_bare : (e : PlainEntry) (es ns : List QueueEntry) → ArePushed e es ns → queues_without_rings ns ≡ queues_without_rings es
noted_bare e [] ns h = ap queues_without_rings h
noted_bare e (x ∷ es) [] h = absurd h
noted_bare e (x ∷ es) (w ∷ ns) h =
    let here : (w.0, w.1.queue) ≡ (x.0, x.1.queue) = λ i. (h.0 i, h.1.queue i) in
    ap (λ y. y ∷ queues_without_rings ns) here ∙ ap (λ l. (x.0, x.1.queue) ∷ l) (noted_bare e es ns h.2)

pub noted_keys : (e : PlainEntry) (es ns : List QueueEntry) → ArePushed e es ns → keys_of ns ≡ keys_of es
noted_keys e [] ns h = ap keys_of h
noted_keys e (x ∷ es) [] h = absurd h
noted_keys e (x ∷ es) (w ∷ ns) h = ap (λ k. k ∷ keys_of ns) h.0 ∙ ap (λ l. x.0 ∷ l) (noted_keys e es ns h.2)

pub noted_fit : (log : List PlainEntry) (e : PlainEntry) (es ns : List QueueEntry) → AreRingsOfLog log es → e.version ≡ length log → ArePushed e es ns → AreRingsOfLog (log ++ e ∷ []) ns
noted_fit log e [] ns f at h = subst (AreRingsOfLog (log ++ e ∷ [])) (sym h) tt
noted_fit log e (x ∷ es) [] f at h = absurd h
noted_fit log e (x ∷ es) (w ∷ ns) f at h = (fits_noted log e x.1 w.1 f.0 at h.1, noted_fit log e es ns f.1 at h.2)

-- a closure that pushes to each queue and keeps it
pub noted_pairs : {F : Type 0} (T : F → ℕ → RingedQueue → Bool → RingedQueue → F → Type 0) (e : PlainEntry) (f : F)
    → ((k : ℕ) (v : RingedQueue) (b : Bool) (w : RingedQueue) (g : F) → T f k v b w g → (b ≡ true) × IsPushed e v w × (g ≡ f))
    → (es ns : List QueueEntry) → RetainsPairs T f es ns → ArePushed e es ns
noted_pairs T e f each [] ns r = r
noted_pairs T e f each (x ∷ es) ns r =
    let one = each x.0 x.1 r.0 r.1 r.2 r.4 in
    let rest : RetainsPairs T f es r.3 = subst (λ g. RetainsPairs T g es r.3) one.2 r.5 in
    let is : ns ≡ (x.0, r.1) ∷ r.3 = r.6 ∙ ap (λ b. cond b ((x.0, r.1) ∷ r.3) r.3) one.0 in
    subst (ArePushed e (x ∷ es)) (sym is) (refl, one.1, noted_pairs T e f each es r.3 rest)

-- ---- the entries of a take

some_entry : (x y : PlainEntry) → Some x ≡ Some y → x ≡ y
some_entry x y e = cc

-- one more entry popped from the ring buffer
pub moved_more : (xs : List PlainEntry) (m : ℕ) (x : PlainEntry) → Some x ≡ slice_get (drop m xs) 0 → take (m + 1) xs ≡ take m xs ++ x ∷ []
moved_more [] zero x h = cc
moved_more [] (suc m) x h = cc
moved_more (y ∷ ys) zero x h = ap (λ z. z ∷ []) (sym (some_entry x y h))
moved_more (y ∷ ys) (suc m) x h = let e : suc m + 1 ≡ suc (m + 1) = omega arith in ap (λ n. take n (y ∷ ys)) e ∙ ap (λ l. y ∷ l) (moved_more ys m x h)

take_nothing : {A : Type 0} (n : ℕ) → let es : List A = [] in take n es ≡ []
take_nothing zero = refl
take_nothing (suc n) = refl

drop_of_take : {A : Type 0} (i c : ℕ) (xs : List A) → drop i (take c xs) ≡ take (c - i) (drop i xs)
drop_of_take zero c xs = let e : c - 0 ≡ c = omega arith in ap (λ n. take n xs) (sym e)
drop_of_take (suc i) zero xs = let e : 0 - suc i ≡ 0 = omega arith in ap (λ n. take n (drop (suc i) xs)) (sym e)
drop_of_take {A} (suc i) (suc c) [] = sym (take_nothing {A = A} (suc c - suc i))
drop_of_take (suc i) (suc c) (x ∷ xs) = let e : suc c - suc i ≡ c - i = omega arith in drop_of_take i c xs ∙ ap (λ n. take n (drop i xs)) (sym e)

-- an entry is pending, so the ring buffer ends with the log
within_or : (k p n : ℕ) → (k ≡ 0) ⊎ (p + k ≤ n) → p < n → p + k ≤ n
within_or k p n (inl z) some = omega arith
within_or k p n (inr f) some = f

take_reaches_ring : (log : List PlainEntry) (max : ℕ) (q : RingedQueue) → IsRingOfLog log q → 0 < length (pending_entries log max q.queue) → next_version q.queue + length q.ring ≤ length log
take_reaches_ring log max q f some =
    let p = next_version q.queue in
    let len : length (pending_entries log max q.queue) ≡ min max (length (drop p log)) = length-take max (drop p log) in
    let left : length (drop p log) ≡ length log - p = length-drop p log in
    within_or (length q.ring) p (length log) (ahead_or (length q.ring) p (length log) f.not_before_position) (omega (arith, len, left, some))

-- the first pending entries come from the log, and the rest from the ring buffer
pub taken_out : (log : List PlainEntry) (max b : ℕ) (q : RingedQueue) → IsRingOfLog log q → 0 < length (pending_entries log max q.queue)
    → b ≡ min (length log - length q.ring - next_version q.queue) (length (pending_entries log max q.queue))
    → take b (pending_entries log max q.queue) ++ take (length (pending_entries log max q.queue) - b) q.ring ≡ pending_entries log max q.queue
taken_out log max b q f some is =
    let n = length log in
    let k = length q.ring in
    let p = next_version q.queue in
    let i = n - k - p in
    let rest = drop p log in
    let w = pending_entries log max q.queue in
    let c = length w in
    let within = f.not_longer_than_log in
    let ahead = take_reaches_ring log max q f some in
    let len : c ≡ min max (length rest) = length-take max rest in
    let left : length rest ≡ n - p = length-drop p log in
    let from : n - k ≡ p + i = omega (arith, within, ahead) in
    let ring : q.ring ≡ drop i rest = f.is_log_suffix ∙ ap (λ j. drop j log) from ∙ sym (drop-drop i p log) in
    let all : take c rest ≡ w = ap (λ j. take j rest) len ∙ take_min max rest in
    let first : take b w ≡ take i w = ap (λ j. take j w) is ∙ take_min i w in
    let more : c - b ≡ c - i = omega (arith, is) in
    let second : take (c - b) q.ring ≡ drop i w =
    ap (λ j. take j q.ring) more ∙ ap (take (c - i)) ring ∙ sym (drop_of_take i c rest) ∙ ap (drop i) all in
    ap (λ l. l ++ take (c - b) q.ring) first ∙ ap (λ l. take i w ++ l) second ∙ take-append-drop i w

-- the entries that stay in the ring buffer
pub left_in : (log : List PlainEntry) (max b : ℕ) (q : RingedQueue) → IsRingOfLog log q → 0 < length (pending_entries log max q.queue)
    → b ≡ min (length log - length q.ring - next_version q.queue) (length (pending_entries log max q.queue))
    → drop (length (pending_entries log max q.queue) - b) q.ring ≡ keep_last (length log - next_version (advance log max q.queue)) q.ring
left_in log max b q f some is =
    let n = length log in
    let k = length q.ring in
    let p = next_version q.queue in
    let c = length (pending_entries log max q.queue) in
    let within = f.not_longer_than_log in
    let ahead = take_reaches_ring log max q f some in
    let len : c ≡ min max (length (drop p log)) = length-take max (drop p log) in
    let left : length (drop p log) ≡ n - p = length-drop p log in
    let same : c - b ≡ k - (n - next_version (advance log max q.queue)) = omega (arith, within, ahead, len, left, some, is) in
    ap (λ j. drop j q.ring) same

none_or : (k p n r : ℕ) → (k ≡ 0) ⊎ (p + k ≤ n) → r ≡ n - p → k - r ≡ 0
none_or k p n r (inl z) is = omega arith
none_or k p n r (inr f) is = omega arith

-- without pending entries the ring buffer is unchanged
pub unchanged_in : (log : List PlainEntry) (max : ℕ) (q : RingedQueue) → IsRingOfLog log q → length (pending_entries log max q.queue) ≡ 0 → q ≡ advance_ringed_queue log max q
unchanged_in log max q f none =
    let n = length log in
    let k = length q.ring in
    let p = next_version q.queue in
    let r = n - next_version (advance log max q.queue) in
    let same : q.queue.taken ≡ q.queue.taken + length (pending_entries log max q.queue) = omega (arith, none) in
    let zero : k - r ≡ 0 = none_or k p n r (ahead_or k p n f.not_before_position) (omega (arith, none)) in
    λ i. record { queue = record { start = q.queue.start; taken = same i; by = q.queue.by }; ring = (sym (ap (λ j. drop j q.ring) zero)) i }
