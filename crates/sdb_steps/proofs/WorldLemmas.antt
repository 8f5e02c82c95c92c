-- One step of one session is one step of the world.
use Rattle.std.proofs.Common.{◌≡◌, ℕ, zero, suc, ◌+◌, ◌<◌, ◌≤◌, List, [], ◌∷◌, ◌++◌, length, get_or, Bool, true, false, cond, Option, Some, None, option_map, unwrap_or, nat_eq, ◌⊎◌, inl, inr, refl, sym, ap, ◌∙◌, subst, slice_get, arith}
use Rattle.std.specs.List.{slice_set}
use Rattle.std.specs.Option.{is_some, option_and_then}
use Rattle.std.proofs.lemmas.Option.{slice_get_read}
use Rattle.std.proofs.lemmas.Bool.{eqb-true, eq-eqb}
use Rattle.std.proofs.Math.Dec.{eqb-suc-zero, eqb-zero-suc, eqb-suc-suc}
use Rattle.sdb_oplog.specs.Keys.{PlainKey}
use Rattle.sdb_subscribe.specs.Queue.{PlainQueue, PlainQueues, queue_at, is_queue_of, is_open_by}
use Rattle.sdb_desk.specs.Machine.{QueuesByKey}
use Rattle.sdb_steps.specs.OneStep.{OneStep, Event, reply_to_event, replies_to_events, machine_after_events}
use Rattle.sdb_steps.specs.Picks as plain
use Rattle.sdb_steps.specs.Picks.{SessionStates, StepKind, PlainSessionStep, PlainStepAnswer, reply_answer, notice_answer, out_of_memory, Effect, event, notice, effect, reply_in, IsEffectOutcome, PicksOne, with_session, empty_session}
use Rattle.sdb_steps.specs.Runs.{IsStep}
use Rattle.sdb_steps.specs.Dispatch.{FollowsEffect, DispatchesAct}
use Rattle.sdb_steps.specs.StateView.{position_in_queues, plain_open_attempt, session_state_of, session_states_of, queue_slots_of, queue_slots_at, count_slots, count_queues}
use Rattle.sdb_steps.specs.QueuePosition.{position_of_queue}
use Rattle.sdb_steps.specs.Slots.{PlainQueueSlots, SlotsOpen, SlotsDisjoint, OtherQueuesUnchanged, count_in_slot}
use Rattle.sdb_steps.specs.declared.session_data.Session.{Session}

-- ---- a session's step and its world's

-- the outcome of an effect is its events' outcome, by the machine
record EffectEvents (m : OneStep) (d : Effect) (answer : PlainStepAnswer) (n : OneStep) (x : plain.SessionState) : Type 0 where
  pub events : List Event
  pub done : IsEffectOutcome d answer events x
  pub told : replies_to_events m events ≡ reply_in answer
  pub ends : machine_after_events m events ≡ n

effect_events : (m : OneStep) (d : Effect) (answer : PlainStepAnswer) (n : OneStep) (x : plain.SessionState) → FollowsEffect m d answer n x → EffectEvents m d answer n x
effect_events m (event e y) answer n x h = record { events = e ∷ []; done = (reply_to_event m e, h.0, refl, h.2); told = sym (ap reply_in h.0); ends = sym h.1 }
effect_events m (notice a y) answer n x h = record { events = []; done = (h.0, refl, h.2); told = sym (ap reply_in h.0); ends = sym h.1 }

session_of_other : (w : SessionStates) (i k : ℕ) (b : Bool) → nat_eq i k ≡ b → cond b (w i) (w k) ≡ w k
session_of_other w i k true h = ap w (eqb-true i k h)
session_of_other w i k false h = refl

-- a session replaced by itself
same_session : (w : SessionStates) (i : ℕ) → with_session w i (w i) ≡ w
same_session w i = λ j k. session_of_other w i k (nat_eq i k) refl j

done_step : (m n : OneStep) (w v : SessionStates) (s : PlainSessionStep) (a : PlainStepAnswer) (y : plain.SessionState) → v ≡ with_session w s.session y → EffectEvents m (effect m s.session (w s.session) s.act) a n y
    → ((events : List Event) → (x : plain.SessionState) × IsEffectOutcome (effect m s.session (w s.session) s.act) a events x × (v ≡ with_session w s.session x) → PicksOne m w s a events v) → IsStep m w s a n v
done_step m n w v s a y put h picks = (h.events, picks h.events (y, h.done, put), h.told, h.ends)

pub turn_step : (m n : OneStep) (w v : SessionStates) (s : PlainSessionStep) (a : PlainStepAnswer) (y : plain.SessionState) → v ≡ with_session w s.session y → DispatchesAct s.session m (w s.session) s.act a n y → IsStep m w s a n v
turn_step m n w v s (reply_answer r) y put h = done_step m n w v s (reply_answer r) y put (effect_events m (effect m s.session (w s.session) s.act) (reply_answer r) n y h) (λ events p. p)
turn_step m n w v s (notice_answer a) y put h = done_step m n w v s (notice_answer a) y put (effect_events m (effect m s.session (w s.session) s.act) (notice_answer a) n y h) (λ events p. p)
turn_step m n w v s out_of_memory y put h = ([], (h.0, refl, put ∙ ap (with_session w s.session) h.2 ∙ same_session w s.session), refl, sym h.1)

-- ---- the sessions of a world

view_set : (q : QueuesByKey) (xs : List Session) (i k : ℕ) (y : Session) → i < length xs → session_states_of q (slice_set xs i y) k ≡ cond (nat_eq i k) (session_state_of q y) (session_states_of q xs k)
view_set q [] i k y h = absurd (omega arith)
view_set q (x ∷ xs) zero zero y h = refl
view_set q (x ∷ xs) zero (suc k) y h = ap (λ (b : Bool). cond b (session_state_of q y) (session_states_of q xs k)) (sym (eqb-zero-suc k))
view_set q (x ∷ xs) (suc i) zero y h = ap (λ (b : Bool). cond b (session_state_of q y) (session_state_of q x)) (sym (eqb-suc-zero i))
view_set q (x ∷ xs) (suc i) (suc k) y h = view_set q xs i k y (omega arith) ∙ ap (λ (b : Bool). cond b (session_state_of q y) (session_states_of q xs k)) (sym (eqb-suc-suc i k))

slots_set : (xs : List Session) (i n : ℕ) (y : Session) (k : PlainKey) → i < length xs → queue_slots_at (slice_set xs i y) n k ≡ cond (nat_eq i n) (queue_slots_of y k) (queue_slots_at xs n k)
slots_set [] i n y k h = absurd (omega arith)
slots_set (x ∷ xs) zero zero y k h = refl
slots_set (x ∷ xs) zero (suc n) y k h = ap (λ (b : Bool). cond b (queue_slots_of y k) (queue_slots_at xs n k)) (sym (eqb-zero-suc n))
slots_set (x ∷ xs) (suc i) zero y k h = ap (λ (b : Bool). cond b (queue_slots_of y k) (queue_slots_of x k)) (sym (eqb-suc-zero i))
slots_set (x ∷ xs) (suc i) (suc n) y k h = slots_set xs i n y k (omega arith) ∙ ap (λ (b : Bool). cond b (queue_slots_of y k) (queue_slots_at xs n k)) (sym (eqb-suc-suc i n))

pub slots_read : (xs : List Session) (i : ℕ) (x : Session) → i < length xs → x ≡ get_or xs i x → queue_slots_of x ≡ queue_slots_at xs i
slots_read xs i x h is =
    let f : Option Session → PlainQueueSlots = λ o k. option_and_then (λ y. queue_slots_of y k) o in
    sym (ap f (slice_get_read xs (length xs) i x refl h is))

pub session_read : (q : QueuesByKey) (xs : List Session) (i : ℕ) (x : Session) → i < length xs → x ≡ get_or xs i x → session_state_of q x ≡ session_states_of q xs i
session_read q xs i x h is = sym (ap (λ (o : Option Session). unwrap_or (option_map (session_state_of q) o) empty_session) (slice_get_read xs (length xs) i x refl h is))

seen_same : (w v : PlainQueues) (o : Option ℕ) → ((n : ℕ) → o ≡ Some n → queue_at n w.queues ≡ queue_at n v.queues) → position_in_queues w o ≡ position_in_queues v o
seen_same w v None h = refl
seen_same w v (Some n) h = ap (option_map position_of_queue) (h n refl)

session_same : (q r : QueuesByKey) (x : Session) → ((k : PlainKey) (n : ℕ) → queue_slots_of x k ≡ Some n → queue_at n (r k).queues ≡ queue_at n (q k).queues) → session_state_of r x ≡ session_state_of q x
session_same q r x h = let view = session_state_of q x in λ i. record { attempt = view.attempt; queues = λ k. seen_same (r k) (q k) (queue_slots_of x k) (h k) i }

view_same : (q r : QueuesByKey) (o : Option Session) → ((k : PlainKey) (n : ℕ) → option_and_then (λ x. queue_slots_of x k) o ≡ Some n → queue_at n (r k).queues ≡ queue_at n (q k).queues)
    → unwrap_or (option_map (session_state_of r) o) empty_session ≡ unwrap_or (option_map (session_state_of q) o) empty_session
view_same q r None h = refl
view_same q r (Some x) h = session_same q r x h

apart_is : (i j : ℕ) → nat_eq i j ≡ false → i ≡ j → ⊥
apart_is i j is e = let t : nat_eq i j ≡ true = eq-eqb i j e in let x : true ≡ false = sym t ∙ is in cc

module _ (q r : QueuesByKey) (xs : List Session) (i : ℕ) (y : Session) (within : i < length xs) (open_all : (j : ℕ) → SlotsOpen j q (queue_slots_at xs j)) (apart : SlotsDisjoint (queue_slots_at xs)) (leaves : OtherQueuesUnchanged i q (queue_slots_at xs i) r (queue_slots_of y)) where
  -- the queue of another session is unchanged
  other_queue_stays : (j : ℕ) (k : PlainKey) (n : ℕ) → nat_eq i j ≡ false → queue_slots_at xs j k ≡ Some n → queue_at n (r k).queues ≡ queue_at n (q k).queues
  other_queue_stays j k n is at = leaves.others k n (open_all j k n at).0 (λ own. apart_is i j is (apart i j k n own at))

  view_if : (b : Bool) (j : ℕ) → nat_eq i j ≡ b → cond b (session_state_of r y) (session_states_of r xs j) ≡ cond b (session_state_of r y) (session_states_of q xs j)
  view_if true j is = refl
  view_if false j is = view_same q r (slice_get xs j) (λ k n at. other_queue_stays j k n is at)

  pub sessions_set : session_states_of r (slice_set xs i y) ≡ with_session (session_states_of q xs) i (session_state_of r y)
  sessions_set = λ d j. (view_set r xs i j y within ∙ view_if (nat_eq i j) j refl) d

  abbrev slot_at : ℕ → PlainQueueSlots
  slot_at j k = cond (nat_eq i j) (queue_slots_of y k) (queue_slots_at xs j k)

  open_if : (b : Bool) (j : ℕ) (k : PlainKey) (n : ℕ) → nat_eq i j ≡ b → cond b (queue_slots_of y k) (queue_slots_at xs j k) ≡ Some n → (n < (r k).next) × (is_open_by j n (r k).queues ≡ true)
  open_if true j k n is at = subst (λ (l : ℕ). (n < (r k).next) × (is_open_by l n (r k).queues ≡ true)) (eqb-true i j is) (leaves.now k n at)
  open_if false j k n is at =
      let o = open_all j k n at in
      let low = o.0 in
      let more = leaves.next_not_lower k in
      (omega (arith, low, more), ap (is_queue_of j) (other_queue_stays j k n is at) ∙ o.1)

  pub open_set : (j : ℕ) → SlotsOpen j r (queue_slots_at (slice_set xs i y) j)
  open_set j k n at = open_if (nat_eq i j) j k n refl (sym (slots_set xs i j y k within) ∙ at)

  own_other : (j : ℕ) (k : PlainKey) (n : ℕ) → (queue_slots_at xs i k ≡ Some n) ⊎ ((q k).next ≤ n) → queue_slots_at xs j k ≡ Some n → i ≡ j
  own_other j k n (inl own) at = apart i j k n own at
  own_other j k n (inr new) at = let low = (open_all j k n at).0 in absurd (omega (arith, low, new))

  apart_if : (b c : Bool) (j l : ℕ) (k : PlainKey) (n : ℕ) → nat_eq i j ≡ b → nat_eq i l ≡ c → cond b (queue_slots_of y k) (queue_slots_at xs j k) ≡ Some n → cond c (queue_slots_of y k) (queue_slots_at xs l k) ≡ Some n → j ≡ l
  apart_if true true j l k n a b f g = sym (eqb-true i j a) ∙ eqb-true i l b
  apart_if true false j l k n a b f g = sym (eqb-true i j a) ∙ own_other l k n (leaves.own_or_new k n f) g
  apart_if false true j l k n a b f g = sym (own_other j k n (leaves.own_or_new k n g) f) ∙ eqb-true i l b
  apart_if false false j l k n a b f g = apart j l k n f g

  pub apart_set : SlotsDisjoint (queue_slots_at (slice_set xs i y))
  apart_set j l k n f g = apart_if (nat_eq i j) (nat_eq i l) j l k n refl refl (sym (slots_set xs i j y k within) ∙ f) (sym (slots_set xs i l y k within) ∙ g)

  count_set : (zs : List Session) (j : ℕ) (k : PlainKey) → j < length zs → count_slots (slice_set zs j y) k + count_in_slot (queue_slots_at zs j k) ≡ count_slots zs k + count_in_slot (queue_slots_of y k)
  count_set [] j k h = absurd (omega arith)
  count_set (z ∷ zs) zero k h = omega arith
  count_set (z ∷ zs) (suc j) k h = let below = count_set zs j k (omega (arith, h)) in omega (arith, below)

  pub counted_set : ((k : PlainKey) → length (q k).queues ≡ count_slots xs k) → (k : PlainKey) → length (r k).queues ≡ count_slots (slice_set xs i y) k
  counted_set h k =
      let before = h k in
      let steps = leaves.counted k in
      let sets = count_set xs i k within in
      omega (arith, before, steps, sets)

-- ---- the number of queues

one_if : (i : ℕ) (o : Option PlainQueue) → is_queue_of i o ≡ true → ◌≡◌ {A = ℕ} 1 (cond (is_some (option_map position_of_queue o)) 1 0)
one_if i None h = cc
one_if i (Some w) h = refl

one_in_slot : (i : ℕ) (q : PlainQueues) (o : Option ℕ) → ((n : ℕ) → o ≡ Some n → is_open_by i n q.queues ≡ true) → ◌≡◌ {A = ℕ} (count_in_slot o) (cond (is_some (position_in_queues q o)) 1 0)
one_in_slot i q None h = refl
one_in_slot i q (Some n) h = one_if i (queue_at n q.queues) (h n refl)

count_from : (q : QueuesByKey) (xs : List Session) (i : ℕ) (w : SessionStates) → ((j m : ℕ) → m ≡ i + j → w m ≡ session_states_of q xs j)
    → ((j m : ℕ) → m ≡ i + j → SlotsOpen m q (queue_slots_at xs j)) → (k : PlainKey) → count_queues w k i (length xs) ≡ count_slots xs k
count_from q [] i w h opens k = refl
count_from q (x ∷ xs) i w h opens k =
    let first : (w i).queues k ≡ position_in_queues (q k) (queue_slots_of x k) = ap (λ (s : plain.SessionState). s.queues k) (h 0 i (omega arith)) in
    let one = one_in_slot i (q k) (queue_slots_of x k) (λ n at. (opens 0 i (omega arith) k n at).1) in
    let here : ◌≡◌ {A = ℕ} (cond (is_some ((w i).queues k)) 1 0) (count_in_slot (queue_slots_of x k)) = ap (λ o. cond (is_some o) 1 0) first ∙ sym one in
    let rest = count_from q xs (i + 1) w (λ j m e. h (suc j) m (omega (arith, e))) (λ j m e. opens (suc j) m (omega (arith, e))) k in
    omega (arith, here, rest)

-- as many sessions have a queue of the key as slots are filled
pub count_of_slots : (q : QueuesByKey) (xs : List Session) → ((j : ℕ) → SlotsOpen j q (queue_slots_at xs j)) → (n : ℕ) → length xs ≡ n → (k : PlainKey) → count_queues (session_states_of q xs) k 0 n ≡ count_slots xs k
count_of_slots q xs opens n e k =
    let w = session_states_of q xs in
    ap (λ m. count_queues w k 0 m) (sym e)
    ∙ count_from q xs 0 w (λ j m is. ap w (omega (arith, is))) (λ j m is. subst (λ l. SlotsOpen l q (queue_slots_at xs j)) (omega (arith, is)) (opens j)) k

-- ---- fresh sessions

pub count_more : (xs : List Session) (x : Session) (k : PlainKey) → queue_slots_of x ≡ (λ k. None) → count_slots xs k ≡ 0 → count_slots (xs ++ x ∷ []) k ≡ 0
count_more [] x k h f = let empty = ap (λ (s : PlainQueueSlots). count_in_slot (s k)) h in omega (arith, empty)
count_more (y ∷ xs) x k h f =
    let below = count_more xs x k h (omega (arith, f)) in
    omega (arith, f, below)

pub none_more : (xs : List Session) (x : Session) → queue_slots_of x ≡ (λ k. None) → ((n : ℕ) (k : PlainKey) → queue_slots_at xs n k ≡ None) → (n : ℕ) (k : PlainKey) → queue_slots_at (xs ++ x ∷ []) n k ≡ None
none_more [] x h f zero k = ap (λ (s : PlainQueueSlots). s k) h
none_more [] x h f (suc n) k = refl
none_more (y ∷ xs) x h f zero k = f zero k
none_more (y ∷ xs) x h f (suc n) k = none_more xs x h (λ m. f (suc m)) n k

pub fresh_session : (q : QueuesByKey) (x : Session) → x.attempt ≡ None → queue_slots_of x ≡ (λ k. None) → session_state_of q x ≡ empty_session
fresh_session q x a s = λ i. record { attempt = option_map plain_open_attempt (a i); queues = λ k. position_in_queues (q k) (s i k) }

pub fresh_more : (q : QueuesByKey) (xs : List Session) (x : Session) → session_state_of q x ≡ empty_session → ((k : ℕ) → session_states_of q xs k ≡ empty_session) → (k : ℕ) → session_states_of q (xs ++ x ∷ []) k ≡ empty_session
fresh_more q [] x h f zero = h
fresh_more q [] x h f (suc k) = refl
fresh_more q (y ∷ xs) x h f zero = f zero
fresh_more q (y ∷ xs) x h f (suc k) = fresh_more q xs x h (λ n. f (suc n)) k
