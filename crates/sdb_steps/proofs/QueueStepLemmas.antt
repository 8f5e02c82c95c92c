-- The effect of a step on the session's queue of one key and on other queues.
use Rattle.std.proofs.Common.{◌≡◌, ℕ, ◌+◌, ◌<◌, ◌≤◌, List, [], ◌∷◌, ◌++◌, length, length-append, Bool, true, false, cond, nat_eq, nat_lt, Option, Some, None, Result, Ok, Err, ◌⊎◌, inl, inr, refl, sym, ap, ◌∙◌, subst, unwrap_or, option_map, IfOk, OnErr, arith}
use Rattle.std.proofs.lemmas.Bool.{eq-eqb}
use Rattle.std.specs.Option.{is_some, option_map_or}
use Rattle.std.specs.Result.{is_ok}
use Rattle.sdb_oplog.specs.declared.codes.Code.{Code}
use Rattle.sdb_oplog.specs.declared.codes.Code.TheVariants.{E1, E2, E3, E4, E5, E6, E7, E8, E9, E10, E11}
use Rattle.sdb_oplog.specs.Plain.{PlainEntry, PlainSubmission, PlainContent}
use Rattle.sdb_oplog.specs.Keys.{PlainKey, keys_equal}
use Rattle.sdb_oplog.specs.Snap.{document_of}
use Rattle.sdb_oplog.specs.Refusal.{result_and_then}
use Rattle.sdb_oplog.specs.Decide.{decide_allocates}
use Rattle.sdb_subscribe.specs.Queue.{PlainQueue, PlainQueues, queue_at, is_queue_of, is_open_by, replace_queue, pending_entries, advance, queues_after_take, take_result, remove_queue}
use Rattle.sdb_subscribe.specs.laws.QueueLaws.{queue_at_opened_other, queue_at_taken, queue_at_taken_other, queue_at_removed_other}
use Rattle.sdb_oplog.specs.Keys.{with_value_at_key}
use Rattle.sdb_desk.specs.laws.MapLaws.{updated_at_same}
use Rattle.sdb_desk.specs.laws.KeyLaws.{eq_of_keys_equal, with_queues_same}
use Rattle.sdb_desk.specs.Machine.{is_nonempty, QueuesByKey, PlainFetchResult, PlainSubscribeResult, queue_start, subscribe_opened, subscribe_from_start, SubscribesOrOutOfMemory, TakesOrOutOfMemory, ReadOrOutOfMemory, read_has_document, read_has_version, snapshot_at, close_queue, with_queues}
use Rattle.sdb_desk.specs.Machine as desk
use Rattle.sdb_steps.specs.OneStep as machine
use Rattle.sdb_steps.specs.OneStep.{OneStep, machine_after_event, reply_to_event, start_result, with_id_issued}
use Rattle.sdb_steps.specs.Picks as plain
use Rattle.sdb_steps.specs.Picks.{SessionState, PlainStepAnswer, reply_answer, notice_answer, out_of_memory, subscribe_effect, take_effect, effect, effect_allocates, with_queue}
use Rattle.sdb_steps.specs.Dispatch.{FollowsEffect, DispatchesAct, AttemptCommits, AttemptBegins, AttemptWorks}
use Rattle.sdb_steps.specs.StateView.{position_in_queues}
use Rattle.sdb_steps.specs.QueuePosition.{QueuePosition, position_of_queue, advance_position as read_on}
use Rattle.sdb_steps.specs.Slots.{PlainQueueSlots, SlotsOpen, OtherQueuesUnchanged, close_in, count_in_slot}
use Rattle.sdb_steps.specs.View.{plain_start, start_refusal_answer, snapshot_refusal_answer}

-- ---- a change at one key

at_key : {A : Type 0} (f g : PlainKey → A) (k : PlainKey) (w : A) (j : PlainKey) → g ≡ with_value_at_key f k w → keys_equal k j ≡ true → g j ≡ w
at_key f g k w j e is = ap (λ h. h j) e ∙ ap (λ b. cond b w (f j)) is

after_key : {A : Type 0} (f g : PlainKey → A) (k : PlainKey) (w : A) (j : PlainKey) → g ≡ with_value_at_key f k w → keys_equal k j ≡ false → g j ≡ f j
after_key f g k w j e is = ap (λ h. h j) e ∙ ap (λ b. cond b w (f j)) is

seen_if : (b : Bool) (w x : PlainQueues) (o y : Option ℕ) (p : Option QueuePosition) → position_in_queues w o ≡ p → position_in_queues (cond b w x) (cond b o y) ≡ cond b p (position_in_queues x y)
seen_if true w x o y p h = h
seen_if false w x o y p h = refl

-- the queues that the session sees
pub seen_at : (q r : QueuesByKey) (s t : PlainQueueSlots) (k : PlainKey) (w : PlainQueues) (o : Option ℕ) (p : Option QueuePosition) → r ≡ with_queues q k w → t ≡ with_value_at_key s k o → position_in_queues w o ≡ p
    → ◌≡◌ {A = PlainKey → Option QueuePosition} (λ j. position_in_queues (r j) (t j)) (λ j. cond (keys_equal k j) p (position_in_queues (q j) (s j)))
seen_at q r s t k w o p hr ht h = λ i j. (ap (λ (f : QueuesByKey). position_in_queues (f j) (t j)) hr ∙ ap (λ (f : PlainQueueSlots). position_in_queues (with_queues q k w j) (f j)) ht ∙ seen_if (keys_equal k j) w (q j) o (s j) p h) i

module _ (i : ℕ) (q r : QueuesByKey) (s t : PlainQueueSlots) (k : PlainKey) (queues_after : PlainQueues) (o : Option ℕ) (are_open : SlotsOpen i q s) (hr : r ≡ with_queues q k queues_after) (ht : t ≡ with_value_at_key s k o) where
  abbrev NextNotLower : Type 0
  NextNotLower = (q k).next ≤ queues_after.next

  abbrev OtherQueuesSame : Type 0
  OtherQueuesSame = (n : ℕ) → n < (q k).next → (s k ≡ Some n → ⊥) → queue_at n queues_after.queues ≡ queue_at n (q k).queues

  abbrev OwnQueueOrNew : Type 0
  OwnQueueOrNew = (n : ℕ) → o ≡ Some n → (s k ≡ Some n) ⊎ ((q k).next ≤ n)

  abbrev SlotsOpenAfter : Type 0
  SlotsOpenAfter = (n : ℕ) → o ≡ Some n → (n < queues_after.next) × (is_open_by i n queues_after.queues ≡ true)

  abbrev IsCountedAtKey : Type 0
  IsCountedAtKey = length queues_after.queues + count_in_slot (s k) ≡ length (q k).queues + count_in_slot o

  at_key_same : (j : PlainKey) → keys_equal k j ≡ true → r j ≡ queues_after
  at_key_same j is = at_key q r k queues_after j hr is

  at_other_key : (j : PlainKey) → keys_equal k j ≡ false → r j ≡ q j
  at_other_key j is = after_key q r k queues_after j hr is

  same_queues : (j : PlainKey) → keys_equal k j ≡ true → q j ≡ q k
  same_queues j is = ap q (sym (eq_of_keys_equal k j is))

  same_slot : (j : PlainKey) → keys_equal k j ≡ true → s j ≡ s k
  same_slot j is = ap s (sym (eq_of_keys_equal k j is))

  grow_if : NextNotLower → (j : PlainKey) (b : Bool) → keys_equal k j ≡ b → (q j).next ≤ (r j).next
  grow_if h j true is = let x = ap (λ (z : PlainQueues). z.next) (at_key_same j is) in let y = ap (λ (z : PlainQueues). z.next) (same_queues j is) in omega (arith, h, x, y)
  grow_if h j false is = let x = ap (λ (z : PlainQueues). z.next) (at_other_key j is) in omega (arith, x)

  others_if : OtherQueuesSame → (j : PlainKey) (n : ℕ) (b : Bool) → keys_equal k j ≡ b → n < (q j).next → (s j ≡ Some n → ⊥) → queue_at n (r j).queues ≡ queue_at n (q j).queues
  others_if h j n true is below apart =
      let x = ap (λ (z : PlainQueues). z.next) (same_queues j is) in
      let low : n < (q k).next = omega (arith, below, x) in
      ap (λ (z : PlainQueues). queue_at n z.queues) (at_key_same j is) ∙ h n low (λ e. apart (same_slot j is ∙ e)) ∙ ap (λ (z : PlainQueues). queue_at n z.queues) (sym (same_queues j is))
  others_if h j n false is below apart = ap (λ (z : PlainQueues). queue_at n z.queues) (at_other_key j is)

  own_here : (j : PlainKey) (n : ℕ) → keys_equal k j ≡ true → (s k ≡ Some n) ⊎ ((q k).next ≤ n) → (s j ≡ Some n) ⊎ ((q j).next ≤ n)
  own_here j n is (inl h) = inl (same_slot j is ∙ h)
  own_here j n is (inr h) = let x = ap (λ (z : PlainQueues). z.next) (same_queues j is) in inr (omega (arith, h, x))

  own_if : OwnQueueOrNew → (j : PlainKey) (n : ℕ) (b : Bool) → keys_equal k j ≡ b → t j ≡ Some n → (s j ≡ Some n) ⊎ ((q j).next ≤ n)
  own_if h j n true is at = own_here j n is (h n (sym (at_key s t k o j ht is) ∙ at))
  own_if h j n false is at = inl (sym (after_key s t k o j ht is) ∙ at)

  now_if : SlotsOpenAfter → (j : PlainKey) (n : ℕ) (b : Bool) → keys_equal k j ≡ b → t j ≡ Some n → (n < (r j).next) × (is_open_by i n (r j).queues ≡ true)
  now_if h j n true is at = subst (λ (z : PlainQueues). (n < z.next) × (is_open_by i n z.queues ≡ true)) (sym (at_key_same j is)) (h n (sym (at_key s t k o j ht is) ∙ at))
  now_if h j n false is at = subst (λ (z : PlainQueues). (n < z.next) × (is_open_by i n z.queues ≡ true)) (sym (at_other_key j is)) (are_open j n (sym (after_key s t k o j ht is) ∙ at))

  count_if : IsCountedAtKey → (j : PlainKey) (b : Bool) → keys_equal k j ≡ b → length (r j).queues + count_in_slot (s j) ≡ length (q j).queues + count_in_slot (t j)
  count_if h j true is =
      let w = ap (λ (z : PlainQueues). length z.queues) (at_key_same j is) in
      let x = ap (λ (z : PlainQueues). length z.queues) (same_queues j is) in
      let y = ap count_in_slot (same_slot j is) in
      let z = ap count_in_slot (at_key s t k o j ht is) in
      omega (arith, h, w, x, y, z)
  count_if h j false is =
      let w = ap (λ (z : PlainQueues). length z.queues) (at_other_key j is) in
      let z = ap count_in_slot (after_key s t k o j ht is) in
      omega (arith, w, z)

  -- the frame of the other sessions
  pub leaves_at : NextNotLower → OtherQueuesSame → OwnQueueOrNew → SlotsOpenAfter → IsCountedAtKey → OtherQueuesUnchanged i q s r t
  leaves_at grows others own now counted = record {
    next_not_lower = λ j. grow_if grows j (keys_equal k j) refl;
    others = λ j n. others_if others j n (keys_equal k j) refl;
    own_or_new = λ j n. own_if own j n (keys_equal k j) refl;
    now = λ j n. now_if now j n (keys_equal k j) refl;
    counted = λ j. count_if counted j (keys_equal k j) refl;
  }

-- if nothing changes
pub leaves_all : (i : ℕ) (q r : QueuesByKey) (s t : PlainQueueSlots) → SlotsOpen i q s → r ≡ q → t ≡ s → OtherQueuesUnchanged i q s r t
leaves_all i q r s t opens hr ht = record {
  next_not_lower = λ k. let x = ap (λ (f : QueuesByKey). (f k).next) hr in omega (arith, x);
  others = λ k n low apart. ap (λ (f : QueuesByKey). queue_at n (f k).queues) hr;
  own_or_new = λ k n at. inl (ap (λ (f : PlainQueueSlots). f k) (sym ht) ∙ at);
  now = λ k n at. subst (λ (f : QueuesByKey). (n < (f k).next) × (is_open_by i n (f k).queues ≡ true)) (sym hr) (opens k n (ap (λ (f : PlainQueueSlots). f k) (sym ht) ∙ at));
  counted = λ k.
      let w = ap (λ (f : QueuesByKey). length (f k).queues) hr in
      let z = ap (λ (f : PlainQueueSlots). count_in_slot (f k)) ht in
      omega (arith, w, z);
}

-- an update at k with the old queues changes nothing
pub unchanged_queues : (q r : QueuesByKey) (k : PlainKey) → r ≡ with_queues q k (r k) → r k ≡ q k → r ≡ q
unchanged_queues q r k others here = others ∙ ap (with_queues q k) here ∙ with_queues_same q k

-- ---- a queue that is opened

-- the new queue has the next number, and the machine gives its start
record OpenStep (log : List PlainEntry) (by : ℕ) (v : Option ℕ) (q : PlainQueues) (o : PlainSubscribeResult) (w : PlainQueues) : Type 0 where
  pub start : queue_start log v ≡ Ok o.start
  pub room : nat_eq q.next 18446744073709551615 ≡ false
  pub number : o.id ≡ q.next
  pub next : w.next ≡ q.next + 1
  pub queues : w.queues ≡ q.queues ++ (q.next, record { start = o.start; taken = 0; by = by }) ∷ []

ok_is : {A : Type 0} (x y : A) → ◌≡◌ {A = Result A Code} (Ok x) (Ok y) → x ≡ y
ok_is x y h = cc

abbrev more_of : ℕ → PlainQueues → ℕ → PlainQueues
more_of by q n = record { next = q.next + 1; queues = q.queues ++ (q.next, record { start = n; taken = 0; by = by }) ∷ [] }

opened_if : (c : Bool) (log : List PlainEntry) (by : ℕ) (v : Option ℕ) (q : PlainQueues) (o : PlainSubscribeResult) (w more : PlainQueues) → nat_lt (length log) (unwrap_or v (length log)) ≡ false → nat_eq q.next 18446744073709551615 ≡ c → more ≡ more_of by q (unwrap_or v (length log))
    → Ok o ≡ (subscribe_opened log (unwrap_or v (length log)) q (cond c (Err E11) (Ok more))).answer → w ≡ (subscribe_opened log (unwrap_or v (length log)) q (cond c (Err E11) (Ok more))).queues → OpenStep log by v q o w
opened_if true log by v q o w more is room makes h at = cc
opened_if false log by v q o w more is room makes h at =
    let n = unwrap_or v (length log) in
    let e : o ≡ record { id = q.next; start = n; version = length log; snapshot = document_of log } = ok_is o _ h in
    let begins : o.start ≡ n = ap (λ x. x.start) e in
    let is_more : w ≡ more_of by q n = at ∙ makes in
    record {
      start = ap (λ b. cond b (Err E4) (Ok n)) is ∙ ap Ok (sym begins);
      room = room;
      number = ap (λ x. x.id) e;
      next = ap (λ x. x.next) is_more;
      queues = ap (λ x. x.queues) is_more ∙ ap (λ m. q.queues ++ (q.next, record { start = m; taken = 0; by = by }) ∷ []) (sym begins);
    }

start_if : (b : Bool) (log : List PlainEntry) (by : ℕ) (v : Option ℕ) (q : PlainQueues) (o : PlainSubscribeResult) (w : PlainQueues) → nat_lt (length log) (unwrap_or v (length log)) ≡ b → Ok o ≡ (subscribe_from_start log by q (cond b (Err E4) (Ok (unwrap_or v (length log))))).answer
    → w ≡ (subscribe_from_start log by q (cond b (Err E4) (Ok (unwrap_or v (length log))))).queues → OpenStep log by v q o w
start_if true log by v q o w is h at = cc
start_if false log by v q o w is h at = opened_if (nat_eq q.next 18446744073709551615) log by v q o w (more_of by q (unwrap_or v (length log))) is refl refl h at

open_step : (log : List PlainEntry) (by : ℕ) (v : Option ℕ) (q : PlainQueues) (o : PlainSubscribeResult) (w : PlainQueues) → SubscribesOrOutOfMemory log by v q (Ok o) w → OpenStep log by v q o w
open_step log by v q o w (inl h) = let x = h.0 in cc
open_step log by v q o w (inr h) = start_if (nat_lt (length log) (unwrap_or v (length log))) log by v q o w refl h.0 h.1

-- ---- a queue that is refused

open_refused : (c : Bool) (log : List PlainEntry) (n : ℕ) (q w more : PlainQueues) (code : Code) → Err code ≡ (subscribe_opened log n q (cond c (Err E11) (Ok more))).answer → w ≡ (subscribe_opened log n q (cond c (Err E11) (Ok more))).queues
    → (w ≡ q) × (code ≡ E11) × (c ≡ true)
open_refused true log n q w more code h at = (at, let e : code ≡ E11 = cc in e, refl)
open_refused false log n q w more code h at = cc

-- the code is the machine's
record RefusedStep (log : List PlainEntry) (v : Option ℕ) (q : PlainQueues) (code : Code) (w : PlainQueues) : Type 0 where
  pub same : w ≡ q
  pub due : (code ≡ E4) ⊎ (code ≡ E11)
  pub is : result_and_then (λ start. cond (nat_eq q.next 18446744073709551615) (Err E11) (Ok start)) (queue_start log v) ≡ Err code

start_refused : (b : Bool) (log : List PlainEntry) (by : ℕ) (v : Option ℕ) (q w : PlainQueues) (code : Code) → nat_lt (length log) (unwrap_or v (length log)) ≡ b → Err code ≡ (subscribe_from_start log by q (cond b (Err E4) (Ok (unwrap_or v (length log))))).answer
    → w ≡ (subscribe_from_start log by q (cond b (Err E4) (Ok (unwrap_or v (length log))))).queues → RefusedStep log v q code w
start_refused true log by v q w code is h at =
    let e : code ≡ E4 = cc in
    let f : ℕ → Result ℕ Code = λ start. cond (nat_eq q.next 18446744073709551615) (Err E11) (Ok start) in
    record { same = at; due = inl e; is = ap (λ b. result_and_then f (cond b (Err E4) (Ok (unwrap_or v (length log))))) is ∙ ap Err (sym e) }
start_refused false log by v q w code is h at =
    let n = unwrap_or v (length log) in
    let f : ℕ → Result ℕ Code = λ start. cond (nat_eq q.next 18446744073709551615) (Err E11) (Ok start) in
    let r : (w ≡ q) × (code ≡ E11) × (nat_eq q.next 18446744073709551615 ≡ true) = open_refused (nat_eq q.next 18446744073709551615) log n q w (more_of by q n) code h at in
    record { same = r.0; due = inr r.1; is = ap (λ b. result_and_then f (cond b (Err E4) (Ok n))) is ∙ ap (λ c. cond c (Err E11) (Ok n)) r.2 ∙ ap Err (sym r.1) }

refused_step : (log : List PlainEntry) (by : ℕ) (v : Option ℕ) (q w : PlainQueues) (code : Code) → SubscribesOrOutOfMemory log by v q (Err code) w → ((code ≡ E10) × (w ≡ q)) ⊎ RefusedStep log v q code w
refused_step log by v q w code (inl h) = inl (let e : code ≡ E10 = (let x = h.0 in cc) in e, h.1)
refused_step log by v q w code (inr h) = inr (start_refused (nat_lt (length log) (unwrap_or v (length log))) log by v q w code refl h.0 h.1)

-- ---- the machine

subscribe_wants : (m : OneStep) (x : SessionState) (k : PlainKey) (v : Option ℕ) (r : Result ℕ Code) → start_result m k v ≡ r → is_ok r ≡ true → effect_allocates m x.attempt (subscribe_effect x k v r) ≡ true
subscribe_wants m x k v (Ok start) e ok = ap is_ok e
subscribe_wants m x k v (Err code) e ok = cc

code_if : (b c : Bool) (n : ℕ) (code : Code) → result_and_then (λ (start : ℕ). cond c (Err E11) (Ok start)) (cond b (Err E4) (Ok n)) ≡ Err code → (code ≡ E4) ⊎ (code ≡ E11)
code_if true c n code h = inl (let e : code ≡ E4 = cc in e)
code_if false true n code h = inr (let e : code ≡ E11 = cc in e)
code_if false false n code h = cc

-- a subscribe is refused with one of two codes
pub started_code : (m : OneStep) (k : PlainKey) (v : Option ℕ) (code : Code) → start_result m k v ≡ Err code → (code ≡ E4) ⊎ (code ≡ E11)
started_code m k v code h =
    code_if (nat_lt (length (m.logs k)) (unwrap_or v (length (m.logs k)))) (nat_eq (m.issued_ids k) 18446744073709551615) (unwrap_or v (length (m.logs k))) code h

-- a subscribe that failed to allocate
pub subscribe_out_of_memory : (i : ℕ) (m n : OneStep) (x y : SessionState) (k : PlainKey) (v : Option ℕ) (start : ℕ) → start_result m k v ≡ Ok start → n ≡ m → y ≡ x → DispatchesAct i m x (plain.subscribe k v) out_of_memory n y
subscribe_out_of_memory i m n x y k v start ok a b = (subscribe_wants m x k v (start_result m k v) refl (ap is_ok ok), a, b)

next_refused : (m : OneStep) (k : PlainKey) (v : Option ℕ) (code : Code) → start_result m k v ≡ Err code → machine_after_event m (machine.subscribe k v) ≡ m
next_refused m k v code e = ap (λ (r : Result ℕ Code). cond (is_ok r) (record { logs = m.logs; issued_ids = with_id_issued m.issued_ids k }) m) e

due_turn : (m n : OneStep) (x y : SessionState) (k : PlainKey) (v : Option ℕ) (code : Code) → start_result m k v ≡ Err code → (code ≡ E4) ⊎ (code ≡ E11) → n ≡ m → y ≡ x → FollowsEffect m (subscribe_effect x k v (Err code)) (plain_start (Err code)) n y
due_turn m n x y k v code e (inl is) a b =
    let D : Code → Type 0 = λ c. start_result m k v ≡ Err c → FollowsEffect m (subscribe_effect x k v (Err c)) (plain_start (Err c)) n y in
    subst D (sym is) (λ f. (ap (λ (r : Result ℕ Code). reply_answer (machine.subscribed r)) (sym f), a ∙ sym (next_refused m k v E4 f), b)) e
due_turn m n x y k v code e (inr is) a b =
    let D : Code → Type 0 = λ c. start_result m k v ≡ Err c → FollowsEffect m (subscribe_effect x k v (Err c)) (plain_start (Err c)) n y in
    subst D (sym is) (λ f. (refl, a, b)) e

pub view_turn : (i : ℕ) (m n : OneStep) (x y : SessionState) (k : PlainKey) (v : Option ℕ) (code : Code) → start_result m k v ≡ Err code → (code ≡ E4) ⊎ (code ≡ E11) → n ≡ m → y ≡ x → DispatchesAct i m x (plain.subscribe k v) (start_refusal_answer code) n y
view_turn i m n x y k v code e (inl is) a b =
    let f : start_result m k v ≡ Err E4 = e ∙ ap Err is in
    subst (λ c. DispatchesAct i m x (plain.subscribe k v) (start_refusal_answer c) n y) (sym is) (subst (λ r. FollowsEffect m (subscribe_effect x k v r) (plain_start (Err E4)) n y) (sym f) (due_turn m n x y k v E4 f (inl refl) a b))
view_turn i m n x y k v code e (inr is) a b =
    let f : start_result m k v ≡ Err E11 = e ∙ ap Err is in
    subst (λ c. DispatchesAct i m x (plain.subscribe k v) (start_refusal_answer c) n y) (sym is) (subst (λ r. FollowsEffect m (subscribe_effect x k v r) (plain_start (Err E11)) n y) (sym f) (due_turn m n x y k v E11 f (inr refl) a b))

refused_or : (i : ℕ) (m n : OneStep) (q w : PlainQueues) (x y : SessionState) (k : PlainKey) (v : Option ℕ) (code : Code) (start : ℕ) → start_result m k v ≡ Ok start → q.next ≡ m.issued_ids k → (w ≡ q → (n ≡ m) × (y ≡ x)) → ((code ≡ E10) × (w ≡ q)) ⊎ RefusedStep (m.logs k) v q code w
    → (w ≡ q) × DispatchesAct i m x (plain.subscribe k v) (start_refusal_answer code) n y
refused_or i m n q w x y k v code start ok given keeps (inl h) =
    let same = keeps h.1 in
    (h.1, subst (λ c. DispatchesAct i m x (plain.subscribe k v) (start_refusal_answer c) n y) (sym h.0) (subscribe_out_of_memory i m n x y k v start ok same.0 same.1))
refused_or i m n q w x y k v code start ok given keeps (inr h) =
    let same = keeps h.same in
    let e : start_result m k v ≡ Err code = ap (λ g. result_and_then (λ start. cond (nat_eq g 18446744073709551615) (Err E11) (Ok start)) (queue_start (m.logs k) v)) (sym given) ∙ h.is in
    (h.same, view_turn i m n x y k v code e h.due same.0 same.1)

pub subscribe_refused : (i : ℕ) (m n : OneStep) (q w : PlainQueues) (x y : SessionState) (k : PlainKey) (v : Option ℕ) (code : Code) (start : ℕ) → start_result m k v ≡ Ok start → q.next ≡ m.issued_ids k → SubscribesOrOutOfMemory (m.logs k) i v q (Err code) w → n.logs ≡ m.logs → (w ≡ q → (n ≡ m) × (y ≡ x))
    → (w ≡ q) × DispatchesAct i m x (plain.subscribe k v) (start_refusal_answer code) n y
subscribe_refused i m n q w x y k v code start ok given h logs keeps = refused_or i m n q w x y k v code start ok given keeps (refused_step (m.logs k) i v q w code h)

refused_preserves : (log : List PlainEntry) (v : Option ℕ) (q w : PlainQueues) (code : Code) → ((code ≡ E10) × (w ≡ q)) ⊎ RefusedStep log v q code w → w ≡ q
refused_preserves log v q w code (inl h) = h.1
refused_preserves log v q w code (inr h) = h.same

pub refused_same : (log : List PlainEntry) (by : ℕ) (v : Option ℕ) (q w : PlainQueues) (code : Code) → SubscribesOrOutOfMemory log by v q (Err code) w → w ≡ q
refused_same log by v q w code h = refused_preserves log v q w code (refused_step log by v q w code h)

-- a session that sees the same queues
pub session_unchanged : (a : Option plain.PlainOpenAttempt) (q r : QueuesByKey) (s t : PlainQueueSlots) → r ≡ q → t ≡ s → ◌≡◌ {A = SessionState} (record { attempt = a; queues = λ j. position_in_queues (r j) (t j) }) (record { attempt = a; queues = λ j. position_in_queues (q j) (s j) })
session_unchanged a q r s t e f = λ i. record { attempt = a; queues = λ j. position_in_queues (e i j) (f i j) }

-- ---- a subscribe that opens a queue

cond_over : {A : Type 0} (b : Bool) (x y z : A) → cond b x (cond b y z) ≡ cond b x z
cond_over true x y z = refl
cond_over false x y z = refl

written_twice : (f : QueuesByKey) (k : PlainKey) (v w : PlainQueues) → with_queues (with_queues f k v) k w ≡ with_queues f k w
written_twice f k v w = λ i q. cond_over (keys_equal k q) w v (f q) i

closed_next : (i : ℕ) (o : Option ℕ) (q : PlainQueues) → (close_in i o q).next ≡ q.next
closed_next i None q = refl
closed_next i (Some n) q = refl

-- ---- the number of queues

removed_if : (b : Bool) (n : ℕ) (q : ℕ × PlainQueue) (qs : List (ℕ × PlainQueue)) → nat_eq n q.0 ≡ b → is_some (queue_at n (q ∷ qs)) ≡ true
    → (is_some (queue_at n qs) ≡ true → length (remove_queue n qs) + 1 ≡ length qs) → length (cond b qs (q ∷ remove_queue n qs)) + 1 ≡ length (q ∷ qs)
removed_if true n q qs is h more = omega arith
removed_if false n q qs is h more =
    let below = more (sym (ap (λ b. is_some (cond b (Some q.1) (queue_at n qs))) is) ∙ h) in
    omega (arith, below)

-- an open queue that is removed is one less
length_removed : (n : ℕ) (qs : List (ℕ × PlainQueue)) → is_some (queue_at n qs) ≡ true → length (remove_queue n qs) + 1 ≡ length qs
length_removed n [] h = cc
length_removed n (q ∷ qs) h = removed_if (nat_eq n q.0) n q qs refl h (length_removed n qs)

replaced_if : (b : Bool) (w : PlainQueue) (q : ℕ × PlainQueue) (qs rest : List (ℕ × PlainQueue)) → length rest ≡ length qs → length (cond b ((q.0, w) ∷ qs) (q ∷ rest)) ≡ length (q ∷ qs)
replaced_if true w q qs rest h = refl
replaced_if false w q qs rest h = omega (arith, h)

length_replaced : (n : ℕ) (w : PlainQueue) (qs : List (ℕ × PlainQueue)) → length (replace_queue n w qs) ≡ length qs
length_replaced n w [] = refl
length_replaced n w (q ∷ qs) = replaced_if (nat_eq n q.0) w q qs (replace_queue n w qs) (length_replaced n w qs)

taken_found : (log : List PlainEntry) (n max : ℕ) (qs : List (ℕ × PlainQueue)) (o : Option PlainQueue) → length (option_map_or (λ w. replace_queue n (advance log max w) qs) o qs) ≡ length qs
taken_found log n max qs None = refl
taken_found log n max qs (Some w) = length_replaced n (advance log max w) qs

-- a take opens and closes no queue
length_taken : (b : Bool) (log : List PlainEntry) (n max : ℕ) (qs : List (ℕ × PlainQueue)) → length (cond b (queues_after_take log n max qs) qs) ≡ length qs
length_taken true log n max qs = taken_found log n max qs (queue_at n qs)
length_taken false log n max qs = refl

is_open : (i : ℕ) (o : Option PlainQueue) → is_queue_of i o ≡ true → is_some o ≡ true
is_open i None h = cc
is_open i (Some w) h = refl

shut_if : (b : Bool) (i n : ℕ) (qs : List (ℕ × PlainQueue)) → is_open_by i n qs ≡ b → is_open_by i n qs ≡ true → length (cond b (remove_queue n qs) qs) + 1 ≡ length qs
shut_if true i n qs is h = length_removed n qs (is_open i (queue_at n qs) h)
shut_if false i n qs is h = cc

-- an own queue that is closed is one less
length_shut : (i n : ℕ) (q : PlainQueues) → is_open_by i n q.queues ≡ true → length (close_queue i n q).queues + 1 ≡ length q.queues
length_shut i n q h = shut_if (is_open_by i n q.queues) i n q.queues refl h

length_closed : (i : ℕ) (o : Option ℕ) (q : PlainQueues) → ((n : ℕ) → o ≡ Some n → is_open_by i n q.queues ≡ true) → length (close_in i o q).queues + count_in_slot o ≡ length q.queues
length_closed i None q h = omega arith
length_closed i (Some n) q h = length_shut i n q (h n refl)

-- a call for a number changes no other queue
shut_other : (b : Bool) (k n : ℕ) (qs : List (ℕ × PlainQueue)) → (k ≡ n → ⊥) → queue_at k (cond b (remove_queue n qs) qs) ≡ queue_at k qs
shut_other true k n qs h = queue_at_removed_other k n qs h
shut_other false k n qs h = refl

taken_other : (b : Bool) (log : List PlainEntry) (k n max : ℕ) (qs : List (ℕ × PlainQueue)) → (k ≡ n → ⊥) → queue_at k (cond b (queues_after_take log n max qs) qs) ≡ queue_at k qs
taken_other true log k n max qs h = queue_at_taken_other log k n max qs h
taken_other false log k n max qs h = refl

closed_other : (i : ℕ) (o : Option ℕ) (q : PlainQueues) (k : ℕ) → (o ≡ Some k → ⊥) → queue_at k (close_in i o q).queues ≡ queue_at k q.queues
closed_other i None q k h = refl
closed_other i (Some n) q k h = shut_other (is_open_by i n q.queues) k n q.queues (λ e. h (ap Some (sym e)))

assigned_if : (b : Bool) (w x : PlainQueues) (g h : ℕ) → w.next ≡ g → x.next ≡ h → (cond b w x).next ≡ cond b g h
assigned_if true w x g h a c = a
assigned_if false w x g h a c = c

some_is : (a b : ℕ) → ◌≡◌ {A = Option ℕ} (Some a) (Some b) → a ≡ b
some_is a b h = cc

abbrev pub seen_by : Option plain.PlainOpenAttempt → QueuesByKey → PlainQueueSlots → SessionState
seen_by a q s = record { attempt = a; queues = λ j. position_in_queues (q j) (s j) }

abbrev pub core_at : (PlainKey → List PlainEntry) → QueuesByKey → OneStep
core_at l q = record { logs = l; issued_ids = λ j. (q j).next }

module _ (i : ℕ) (q0 q1 q2 : QueuesByKey) (l0 l2 : PlainKey → List PlainEntry) (s0 s2 : PlainQueueSlots) (k : PlainKey) (v : Option ℕ) (o : PlainSubscribeResult) (a : Option plain.PlainOpenAttempt) where
  -- the facts from the calls of the shard and of the slots
  pub record SubscribeFacts : Type 0 where
    pub given : SlotsOpen i q0 s0
    pub opened : SubscribesOrOutOfMemory (l0 k) i v (q0 k) (Ok o) (q1 k)
    pub stands : queue_at o.id (q1 k).queues ≡ Some (record { start = o.start; taken = 0; by = i })
    pub others : q1 ≡ with_queues q0 k (q1 k)
    pub slots : s2 ≡ with_value_at_key s0 k (Some o.id)
    pub closed : q2 ≡ with_queues q1 k (close_in i (s0 k) (q1 k))
    pub logs : l2 ≡ l0

  module _ (h : SubscribeFacts) where
    abbrev queues_after : PlainQueues
    queues_after = close_in i (s0 k) (q1 k)

    start_is_free : OpenStep (l0 k) i v (q0 k) o (q1 k)
    start_is_free = open_step (l0 k) i v (q0 k) o (q1 k) h.opened

    queues_written : q2 ≡ with_queues q0 k queues_after
    queues_written = h.closed ∙ ap (λ (f : QueuesByKey). with_queues f k queues_after) h.others ∙ written_twice q0 k (q1 k) queues_after

    w_next : queues_after.next ≡ (q0 k).next + 1
    w_next = closed_next i (s0 k) (q1 k) ∙ start_is_free.next

    -- a queue of the session has a smaller number than the new one
    own_queue_is_older : (n : ℕ) → s0 k ≡ Some n → n < o.id
    own_queue_is_older n at = let below = (h.given k n at).0 in let new = start_is_free.number in omega (arith, below, new)

    new_queue_stays : queue_at o.id queues_after.queues ≡ Some (record { start = o.start; taken = 0; by = i })
    new_queue_stays = closed_other i (s0 k) (q1 k) o.id (λ at. let low = own_queue_is_older o.id at in omega (arith, low)) ∙ h.stands

    other_queues_stay : (n : ℕ) → n < (q0 k).next → (s0 k ≡ Some n → ⊥) → queue_at n queues_after.queues ≡ queue_at n (q0 k).queues
    other_queues_stay n below apart =
        closed_other i (s0 k) (q1 k) n apart
        ∙ ap (queue_at n) start_is_free.queues
        ∙ queue_at_opened_other n (q0 k).next (record { start = o.start; taken = 0; by = i }) (q0 k).queues (λ e. omega (arith, below, e))

    new_number : (n : ℕ) → Some o.id ≡ Some n → (q0 k).next ≡ n
    new_number n at = sym start_is_free.number ∙ some_is o.id n at

    now_at : (n : ℕ) → Some o.id ≡ Some n → (n < queues_after.next) × (is_open_by i n queues_after.queues ≡ true)
    now_at n at =
        let e = new_number n at in
        let f = w_next in
        (omega (arith, e, f), ap (λ (j : ℕ). is_open_by i j queues_after.queues) (sym (some_is o.id n at)) ∙ ap (is_queue_of i) new_queue_stays ∙ eq-eqb i i refl)

    -- the queue in the slot is still open when another one was opened
    old_queue_is_open : (n : ℕ) → s0 k ≡ Some n → is_open_by i n (q1 k).queues ≡ true
    old_queue_is_open n at =
        let below = (h.given k n at).0 in
        ap (is_queue_of i) (ap (queue_at n) start_is_free.queues ∙ queue_at_opened_other n (q0 k).next (record { start = o.start; taken = 0; by = i }) (q0 k).queues (λ e. omega (arith, below, e)))
        ∙ (h.given k n at).1

    count_at : length queues_after.queues + count_in_slot (s0 k) ≡ length (q0 k).queues + 1
    count_at =
        let closed = length_closed i (s0 k) (q1 k) old_queue_is_open in
        let opened : length (q1 k).queues ≡ length (q0 k).queues + 1 = ap length start_is_free.queues ∙ length-append (q0 k).queues _ in
        omega (arith, closed, opened)

    pub joined_leaves : OtherQueuesUnchanged i q0 s0 q2 s2
    joined_leaves =
        let f = w_next in
        leaves_at i q0 q2 s0 s2 k queues_after (Some o.id) h.given queues_written h.slots (omega (arith, f)) other_queues_stay (λ n at. inr (let e = new_number n at in omega (arith, e))) now_at count_at

    slots_assigned : (λ j. (q2 j).next) ≡ with_id_issued (λ j. (q0 j).next) k
    slots_assigned = λ d j. (ap (λ (f : QueuesByKey). (f j).next) queues_written ∙ assigned_if (keys_equal k j) queues_after (q0 j) ((q0 k).next + 1) (q0 j).next w_next refl) d

    start_is : start_result (core_at l0 q0) k v ≡ Ok o.start
    start_is = ap (result_and_then (λ start. cond (nat_eq (q0 k).next 18446744073709551615) (Err E11) (Ok start))) start_is_free.start ∙ ap (λ b. cond b (Err E11) (Ok o.start)) start_is_free.room

    pub joined_turn : DispatchesAct i (core_at l0 q0) (seen_by a q0 s0) (plain.subscribe k v) (reply_answer (machine.subscribed (Ok o.start))) (core_at l2 q2) (seen_by a q2 s2)
    joined_turn =
        let m = core_at l0 q0 in
        let x = seen_by a q0 s0 in
        let put : seen_by a q2 s2 ≡ with_queue x k (Some (record { start = o.start; taken = 0 })) = λ j. record { attempt = a; queues = seen_at q0 q2 s0 s2 k queues_after (Some o.id) (Some (record { start = o.start; taken = 0 })) queues_written h.slots (ap (option_map position_of_queue) new_queue_stays) j } in
        let goes : core_at l2 q2 ≡ machine_after_event m (machine.subscribe k v) = (λ j. record { logs = h.logs j; issued_ids = slots_assigned j }) ∙ sym (ap (λ (r : Result ℕ Code). cond (is_ok r) (record { logs = l0; issued_ids = with_id_issued m.issued_ids k }) m) start_is) in
        let D : Result ℕ Code → Type 0 = λ r. FollowsEffect m (subscribe_effect x k v r) (reply_answer (machine.subscribed (Ok o.start))) (core_at l2 q2) (seen_by a q2 s2) in
        subst D (sym start_is) (ap (λ (r : Result ℕ Code). reply_answer (machine.subscribed r)) (sym start_is), goes, put)

-- ---- a queue that is read, and one that is closed

pub stands_of : (i : ℕ) (o : Option PlainQueue) → is_queue_of i o ≡ true → (w : PlainQueue) × (o ≡ Some w)
stands_of i None h = cc
stands_of i (Some w) h = (w, refl)

entries_are : (es fs : List PlainEntry) → ◌≡◌ {A = Option (List PlainEntry)} (Some es) (Some fs) → es ≡ fs
entries_are es fs h = cc

module _ (i : ℕ) (q0 q1 : QueuesByKey) (l0 l1 : PlainKey → List PlainEntry) (s0 s1 : PlainQueueSlots) (k : PlainKey) (n : ℕ) (own_queue : PlainQueue) (a : Option plain.PlainOpenAttempt) where
  -- the session's queue of k, and the queues of the others
  pub record TakeFacts : Type 0 where
    pub all : SlotsOpen i q0 s0
    pub at : s0 k ≡ Some n
    pub stands : queue_at n (q0 k).queues ≡ Some own_queue
    pub others : q1 ≡ with_queues q0 k (q1 k)
    pub next : (q1 k).next ≡ (q0 k).next
    pub logs : l1 ≡ l0

  module _ (h : TakeFacts) where
    queue_is_owned : is_open_by i n (q0 k).queues ≡ true
    queue_is_owned = (h.all k n h.at).1

    seen_is : (seen_by a q0 s0).queues k ≡ Some (position_of_queue own_queue)
    seen_is = ap (position_in_queues (q0 k)) h.at ∙ ap (option_map position_of_queue) h.stands

    next_if : (j : PlainKey) (b : Bool) → keys_equal k j ≡ b → (q1 j).next ≡ (q0 j).next
    next_if j true is = ap (λ (z : PlainQueues). z.next) (at_key q0 q1 k (q1 k) j h.others is) ∙ h.next ∙ ap (λ z. (q0 z).next) (eq_of_keys_equal k j is)
    next_if j false is = ap (λ (z : PlainQueues). z.next) (after_key q0 q1 k (q1 k) j h.others is)

    core_unchanged : core_at l1 q1 ≡ core_at l0 q0
    core_unchanged = λ d. record { logs = h.logs d; issued_ids = λ j. next_if j (keys_equal k j) refl d }

    apart_of : (j : ℕ) → (s0 k ≡ Some j → ⊥) → (j ≡ n → ⊥)
    apart_of j f e = f (h.at ∙ ap Some (sym e))

    own_number : (j : ℕ) → Some n ≡ Some j → s0 k ≡ Some j
    own_number j e = h.at ∙ e

    slot_unchanged : s1 ≡ s0 → s1 ≡ with_value_at_key s0 k (Some n)
    slot_unchanged e = e ∙ updated_at_same s0 k (Some n) (sym h.at)

    take_deed : (max : ℕ) (m : OneStep) → effect m i (seen_by a q0 s0) (plain.take k max) ≡ take_effect m (seen_by a q0 s0) k max (position_of_queue own_queue)
    take_deed max m = ap (λ (o : Option QueuePosition). option_map_or (take_effect m (seen_by a q0 s0) k max) o (plain.notice plain.idle (seen_by a q0 s0))) seen_is

    pub take_out_of_memory : (max : ℕ) → is_nonempty (pending_entries (l0 k) max own_queue) ≡ true → s1 ≡ s0 → q1 ≡ q0 → DispatchesAct i (core_at l0 q0) (seen_by a q0 s0) (plain.take k max) out_of_memory (core_at l1 q1) (seen_by a q1 s1)
    take_out_of_memory max some e q = (
      ap (effect_allocates (core_at l0 q0) a) (take_deed max (core_at l0 q0)) ∙ some,
      core_unchanged,
      (λ j. record { attempt = a; queues = λ b. position_in_queues (q j b) (e j b) }),
    )

    module _ (max : ℕ) (es : List PlainEntry) (takes_is : TakesOrOutOfMemory (l0 k) i n max (q0 k) (Some (Some es)) (q1 k)) (same : s1 ≡ s0) where
      entries_are_pending : es ≡ pending_entries (l0 k) max own_queue
      entries_are_pending = entries_are es (pending_entries (l0 k) max own_queue) (takes_is.0 ∙ ap (λ b. cond b (take_result (l0 k) n max (q0 k).queues) None) queue_is_owned ∙ ap (option_map (pending_entries (l0 k) max)) h.stands)

      queue_is_advanced : queue_at n (q1 k).queues ≡ Some (advance (l0 k) max own_queue)
      queue_is_advanced = ap (λ (z : PlainQueues). queue_at n z.queues) takes_is.1 ∙ ap (λ b. queue_at n (cond b (queues_after_take (l0 k) n max (q0 k).queues) (q0 k).queues)) queue_is_owned ∙ queue_at_taken (l0 k) n max own_queue (q0 k).queues h.stands

      pub taken_turn : DispatchesAct i (core_at l0 q0) (seen_by a q0 s0) (plain.take k max) (reply_answer (machine.taken es)) (core_at l1 q1) (seen_by a q1 s1)
      taken_turn =
          let put : seen_by a q1 s1 ≡ with_queue (seen_by a q0 s0) k (Some (read_on (l0 k) max (position_of_queue own_queue))) = λ j. record { attempt = a; queues = seen_at q0 q1 s0 s1 k (q1 k) (Some n) (Some (read_on (l0 k) max (position_of_queue own_queue))) h.others (slot_unchanged same) (ap (option_map position_of_queue) queue_is_advanced) j } in
          subst (λ d. FollowsEffect (core_at l0 q0) d (reply_answer (machine.taken es)) (core_at l1 q1) (seen_by a q1 s1)) (sym (take_deed max (core_at l0 q0))) (ap (λ l. reply_answer (machine.taken l)) entries_are_pending, core_unchanged, put)

      pub taken_leaves : OtherQueuesUnchanged i q0 s0 q1 s1
      taken_leaves =
          let f = h.next in
          leaves_at i q0 q1 s0 s1 k (q1 k) (Some n) h.all h.others (slot_unchanged same) (omega (arith, f))
          (λ j below apart. ap (λ (z : PlainQueues). queue_at j z.queues) takes_is.1 ∙ taken_other (is_open_by i n (q0 k).queues) (l0 k) j n max (q0 k).queues (apart_of j apart)) (λ j e. inl (own_number j e))
          (λ j e. let low = (h.all k n h.at).0 in let is = some_is n j e in (omega (arith, low, f, is), ap (λ (d : ℕ). is_open_by i d (q1 k).queues) (sym is) ∙ ap (is_queue_of i) queue_is_advanced ∙ ap (is_queue_of i) (sym h.stands) ∙ queue_is_owned))
          (let same_number : length (q1 k).queues ≡ length (q0 k).queues = ap (λ (z : PlainQueues). length z.queues) takes_is.1 ∙ length_taken (is_open_by i n (q0 k).queues) (l0 k) n max (q0 k).queues in
          let filled = ap count_in_slot h.at in
          omega (arith, same_number, filled))

    module _ (shut : q1 k ≡ close_queue i n (q0 k)) (empty : s1 ≡ with_value_at_key s0 k None) where
      pub closed_turn : DispatchesAct i (core_at l0 q0) (seen_by a q0 s0) (plain.unsubscribe k) (notice_answer plain.unsubscribed) (core_at l1 q1) (seen_by a q1 s1)
      closed_turn =
          let x = seen_by a q0 s0 in
          let put : seen_by a q1 s1 ≡ with_queue x k None = λ j. record { attempt = a; queues = seen_at q0 q1 s0 s1 k (q1 k) None None h.others empty refl j } in
          let is : effect (core_at l0 q0) i x (plain.unsubscribe k) ≡ plain.notice plain.unsubscribed (with_queue x k None) = ap (λ (o : Option QueuePosition). option_map_or (λ q. plain.notice plain.unsubscribed (with_queue x k None)) o (plain.notice plain.idle x)) seen_is in
          subst (λ d. FollowsEffect (core_at l0 q0) d (notice_answer plain.unsubscribed) (core_at l1 q1) (seen_by a q1 s1)) (sym is) (refl, core_unchanged, put)

      pub closed_leaves : OtherQueuesUnchanged i q0 s0 q1 s1
      closed_leaves =
          let f = h.next in
          leaves_at i q0 q1 s0 s1 k (q1 k) None h.all h.others empty (omega (arith, f))
          (λ j below apart. ap (λ (z : PlainQueues). queue_at j z.queues) shut ∙ shut_other (is_open_by i n (q0 k).queues) j n (q0 k).queues (apart_of j apart)) (λ j e. cc) (λ j e. cc)
          (let one_less : length (q1 k).queues + 1 ≡ length (q0 k).queues = ap (λ (z : PlainQueues). length z.queues + 1) shut ∙ length_shut i n (q0 k) queue_is_owned in
          let filled = ap count_in_slot h.at in
          omega (arith, one_less, filled))

-- ---- a commit

commits_if : (b : Bool) (m n : OneStep) (x : SessionState) (now : ℕ) (a : plain.PlainOpenAttempt) (r : machine.EventReply) (o : Option plain.PlainOpenAttempt) → b ≡ true → r ≡ reply_to_event m (machine.submission a.key a.submission now) → n ≡ machine_after_event m (machine.submission a.key a.submission now) → o ≡ None
    → FollowsEffect m (cond b (plain.event (machine.submission a.key a.submission now) (plain.with_attempt x None)) (plain.notice plain.moved (plain.with_attempt x (Some (plain.look_again m a))))) (reply_answer r) n (plain.with_attempt x o)
commits_if true m n x now a r o is h g e = (ap reply_answer h, g, ap (plain.with_attempt x) e)
commits_if false m n x now a r o is h g e = cc

moves_if : (b : Bool) (m n : OneStep) (x : SessionState) (now : ℕ) (a : plain.PlainOpenAttempt) (v : plain.Notice) (o : Option plain.PlainOpenAttempt) → b ≡ false → v ≡ plain.moved → n ≡ m → o ≡ Some (plain.look_again m a)
    → FollowsEffect m (cond b (plain.event (machine.submission a.key a.submission now) (plain.with_attempt x None)) (plain.notice plain.moved (plain.with_attempt x (Some (plain.look_again m a))))) (notice_answer v) n (plain.with_attempt x o)
moves_if true m n x now a v o is h g e = cc
moves_if false m n x now a v o is h g e = (ap notice_answer h, g, ap (plain.with_attempt x) e)

wants_if : (b : Bool) (m : OneStep) (x : SessionState) (now : ℕ) (a : plain.PlainOpenAttempt) → (b ≡ true → decide_allocates (m.logs a.key) a.submission ≡ true) → (b ≡ false → plain.new_look_allocates m a ≡ true)
    → effect_allocates m (Some a) (cond b (plain.event (machine.submission a.key a.submission now) (plain.with_attempt x None)) (plain.notice plain.moved (plain.with_attempt x (Some (plain.look_again m a))))) ≡ true
wants_if true m x now a h g = h refl
wants_if false m x now a h g = g refl

-- the work of a session's attempt
work_deed : (i : ℕ) (m : OneStep) (x : SessionState) (a : plain.PlainOpenAttempt) (b : Bool) → x.attempt ≡ Some a → a.is_worked ≡ b
    → effect m i x plain.work ≡ cond b (plain.notice plain.idle x) (plain.notice plain.worked (plain.with_attempt x (Some (plain.mark_worked a))))
work_deed i m x a b has is =
    ap (λ p. option_map_or (λ t. cond t.is_worked (plain.notice plain.idle x) (plain.notice plain.worked (plain.with_attempt x (Some (plain.mark_worked t))))) p (plain.notice plain.idle x)) has
    ∙ ap (λ c. cond c (plain.notice plain.idle x) (plain.notice plain.worked (plain.with_attempt x (Some (plain.mark_worked a))))) is

pub work_turn : (i : ℕ) (m : OneStep) (x : SessionState) (a b : plain.PlainOpenAttempt) (t : Bool) (answer : PlainStepAnswer) → x.attempt ≡ Some a → (t ≡ true → plain.attempt_work_allocates m a ≡ true) → AttemptWorks t a answer b → DispatchesAct i m x plain.work answer m (plain.with_attempt x (Some b))
work_turn i m x a b t out_of_memory has takes h = (
  ap (effect_allocates m x.attempt) (work_deed i m x a false has h.0) ∙ ap (λ o. plain.notice_allocates m o plain.worked) has ∙ takes h.2,
  refl,
  ap (plain.with_attempt x) (ap Some h.1 ∙ sym has),
)
work_turn i m x a b t (notice_answer plain.worked) has takes h =
    subst (λ d. FollowsEffect m d (notice_answer plain.worked) m (plain.with_attempt x (Some b))) (sym (work_deed i m x a false has h.0)) (refl, refl, ap (plain.with_attempt x) (ap Some h.1))
work_turn i m x a b t (notice_answer plain.idle) has takes h =
    subst (λ d. FollowsEffect m d (notice_answer plain.idle) m (plain.with_attempt x (Some b))) (sym (work_deed i m x a true has h.0)) (refl, refl, ap (plain.with_attempt x) (ap Some h.1 ∙ sym has))
work_turn i m x a b t (notice_answer plain.began) has takes h = absurd h
work_turn i m x a b t (notice_answer plain.moved) has takes h = absurd h
work_turn i m x a b t (notice_answer plain.unsubscribed) has takes h = absurd h
work_turn i m x a b t (notice_answer plain.forgotten) has takes h = absurd h
work_turn i m x a b t (notice_answer plain.full) has takes h = absurd h
work_turn i m x a b t (reply_answer r) has takes h = absurd h

-- the commit of a session's attempt
pub commit_turn : (i : ℕ) (m n : OneStep) (x : SessionState) (now : ℕ) (a : plain.PlainOpenAttempt) (answer : PlainStepAnswer) (o : Option plain.PlainOpenAttempt) → x.attempt ≡ Some a → AttemptCommits m a now answer n o → DispatchesAct i m x (plain.commit now) answer n (plain.with_attempt x o)
commit_turn i m n x now a (reply_answer r) o has h =
    subst (λ d. FollowsEffect m d (reply_answer r) n (plain.with_attempt x o)) (sym (ap (λ p. option_map_or (plain.commit_effect m x now) p (plain.notice plain.idle x)) has)) (commits_if (plain.is_deciding m a) m n x now a r o h.0 h.1 h.2 h.3)
commit_turn i m n x now a (notice_answer v) o has h =
    subst (λ d. FollowsEffect m d (notice_answer v) n (plain.with_attempt x o)) (sym (ap (λ p. option_map_or (plain.commit_effect m x now) p (plain.notice plain.idle x)) has)) (moves_if (plain.is_deciding m a) m n x now a v o h.0 h.1 h.2 h.3)
commit_turn i m n x now a out_of_memory o has h = (
  ap (λ p. effect_allocates m p (option_map_or (plain.commit_effect m x now) p (plain.notice plain.idle x))) has ∙ wants_if (plain.is_deciding m a) m x now a h.2 h.3,
  h.0,
  ap (plain.with_attempt x) (h.1 ∙ sym has),
)

-- ---- a read that is refused

snapped_or : (i : ℕ) (m n : OneStep) (x y : SessionState) (k : PlainKey) (v : Option ℕ) (code : Code) → (code ≡ E10 → ⊥) → ReadOrOutOfMemory read_has_version (Err code) (snapshot_at (m.logs k) v) → n ≡ m → y ≡ x → DispatchesAct i m x (plain.snapshot k v) (reply_answer (machine.snapshot_fetched (Err code))) n y
snapped_or i m n x y k v code other (inl h) a b = absurd (other (let x = h.0 in let e : code ≡ E10 = cc in e))
snapped_or i m n x y k v code other (inr h) a b = (ap (λ r. reply_answer (machine.snapshot_fetched r)) h, a, b)

never_snapped : {A : Type 0} (b : Bool) (f : A) → ◌≡◌ {A = Result A Code} (Err E10) (cond b (Err E4) (Ok f)) → ⊥
never_snapped true f h = cc
never_snapped false f h = cc

pub snapshot_refused : (i : ℕ) (m n : OneStep) (x y : SessionState) (k : PlainKey) (v : Option ℕ) (code : Code) → ReadOrOutOfMemory read_has_version (Err code) (snapshot_at (m.logs k) v) → n ≡ m → y ≡ x → DispatchesAct i m x (plain.snapshot k v) (snapshot_refusal_answer code) n y
snapshot_refused i m n x y k v E1 h a b = snapped_or i m n x y k v E1 (λ e. cc) h a b
snapshot_refused i m n x y k v E2 h a b = snapped_or i m n x y k v E2 (λ e. cc) h a b
snapshot_refused i m n x y k v E3 h a b = snapped_or i m n x y k v E3 (λ e. cc) h a b
snapshot_refused i m n x y k v E4 h a b = snapped_or i m n x y k v E4 (λ e. cc) h a b
snapshot_refused i m n x y k v E5 h a b = snapped_or i m n x y k v E5 (λ e. cc) h a b
snapshot_refused i m n x y k v E6 h a b = snapped_or i m n x y k v E6 (λ e. cc) h a b
snapshot_refused i m n x y k v E7 h a b = snapped_or i m n x y k v E7 (λ e. cc) h a b
snapshot_refused i m n x y k v E8 h a b = snapped_or i m n x y k v E8 (λ e. cc) h a b
snapshot_refused i m n x y k v E9 h a b = snapped_or i m n x y k v E9 (λ e. cc) h a b
snapshot_refused i m n x y k v E10 (inl h) a b = (h.1, a, b)
snapshot_refused i m n x y k v E10 (inr h) a b = absurd (never_snapped (nat_lt (length (m.logs k)) (unwrap_or v (length (m.logs k)))) _ h)
snapshot_refused i m n x y k v E11 h a b = snapped_or i m n x y k v E11 (λ e. cc) h a b

pub snapshot_read : (i : ℕ) (m n : OneStep) (x y : SessionState) (k : PlainKey) (v : Option ℕ) (f : PlainFetchResult) → ReadOrOutOfMemory read_has_version (Ok f) (snapshot_at (m.logs k) v) → n ≡ m → y ≡ x → DispatchesAct i m x (plain.snapshot k v) (reply_answer (machine.snapshot_fetched (Ok f))) n y
snapshot_read i m n x y k v f (inl h) a b = let x = h.0 in cc
snapshot_read i m n x y k v f (inr h) a b = (ap (λ r. reply_answer (machine.snapshot_fetched r)) h, a, b)

pub fetch_refused : (i : ℕ) (m n : OneStep) (x : SessionState) (k : PlainKey) (code : Code) → ReadOrOutOfMemory read_has_document (Err code) (Ok (desk.fetch_result (m.logs k))) → n ≡ m → DispatchesAct i m x (plain.fetch k) out_of_memory n x
fetch_refused i m n x k code (inl h) a = (h.1, a, refl)
fetch_refused i m n x k code (inr h) a = cc

pub fetch_read : (i : ℕ) (m n : OneStep) (x : SessionState) (k : PlainKey) (f : PlainFetchResult) → ReadOrOutOfMemory read_has_document (Ok f) (Ok (desk.fetch_result (m.logs k))) → n ≡ m → DispatchesAct i m x (plain.fetch k) (reply_answer (machine.fetched f)) n x
fetch_read i m n x k f (inl h) a = let w = h.0 in cc
fetch_read i m n x k f (inr h) a = let e : f ≡ desk.fetch_result (m.logs k) = cc in (ap (λ g. reply_answer (machine.fetched g)) e, a, refl)

pub at_time_refused : (i : ℕ) (m n : OneStep) (x : SessionState) (k : PlainKey) (t : Option ℕ) (code : Code) → ReadOrOutOfMemory read_has_version (Err code) (Ok (desk.fetch_at_moment (m.logs k) t)) → n ≡ m → DispatchesAct i m x (plain.snapshot_at_time k t) out_of_memory n x
at_time_refused i m n x k t code (inl h) a = (h.1, a, refl)
at_time_refused i m n x k t code (inr h) a = cc

pub at_time_read : (i : ℕ) (m n : OneStep) (x : SessionState) (k : PlainKey) (t : Option ℕ) (f : PlainFetchResult) → ReadOrOutOfMemory read_has_version (Ok f) (Ok (desk.fetch_at_moment (m.logs k) t)) → n ≡ m → DispatchesAct i m x (plain.snapshot_at_time k t) (reply_answer (machine.moment_fetched f)) n x
at_time_read i m n x k t f (inl h) a = let w = h.0 in cc
at_time_read i m n x k t f (inr h) a = let e : f ≡ desk.fetch_at_moment (m.logs k) t = cc in (ap (λ g. reply_answer (machine.moment_fetched g)) e, a, refl)

-- ---- an attempt that is opened

-- the effect of a begin without an attempt
begin_deed : (i : ℕ) (m : OneStep) (x : SessionState) (k : PlainKey) (src : List ℕ) (seq : ℕ) (v : Option ℕ) (content : PlainContent) → x.attempt ≡ None
    → effect m i x (plain.begin k src seq v content) ≡ plain.notice plain.began (plain.with_attempt x (Some (plain.open_attempt m k (plain.submission_of_begin i k src seq v content))))
begin_deed i m x k src seq v content none =
    ap (λ (o : Option plain.PlainOpenAttempt). option_map_or (λ a. plain.notice plain.idle x) o (plain.notice plain.began (plain.with_attempt x (Some (plain.open_attempt m k (plain.submission_of_begin i k src seq v content)))))) none

pub begin_turn : (i : ℕ) (m : OneStep) (x : SessionState) (k : PlainKey) (src : List ℕ) (seq : ℕ) (v : Option ℕ) (content : PlainContent) (answer : PlainStepAnswer) (o : Option plain.PlainOpenAttempt) → x.attempt ≡ None
    → AttemptBegins m k (plain.submission_of_begin i k src seq v content) answer o → DispatchesAct i m x (plain.begin k src seq v content) answer m (plain.with_attempt x o)
begin_turn i m x k src seq v content out_of_memory o none h = (ap (effect_allocates m x.attempt) (begin_deed i m x k src seq v content none), refl, ap (plain.with_attempt x) (h ∙ sym none))
begin_turn i m x k src seq v content (notice_answer plain.began) o none h =
    subst (λ d. FollowsEffect m d (notice_answer plain.began) m (plain.with_attempt x o)) (sym (begin_deed i m x k src seq v content none)) (refl, refl, ap (plain.with_attempt x) h)
begin_turn i m x k src seq v content (notice_answer plain.worked) o none h = absurd h
begin_turn i m x k src seq v content (notice_answer plain.moved) o none h = absurd h
begin_turn i m x k src seq v content (notice_answer plain.unsubscribed) o none h = absurd h
begin_turn i m x k src seq v content (notice_answer plain.forgotten) o none h = absurd h
begin_turn i m x k src seq v content (notice_answer plain.idle) o none h = absurd h
begin_turn i m x k src seq v content (notice_answer plain.full) o none h = absurd h
begin_turn i m x k src seq v content (reply_answer r) o none h = absurd h

-- with a submission, or after its allocation failed
pub begins_with : {E : Type 0} (m : OneStep) (k : PlainKey) (s : PlainSubmission) (r : Result PlainSubmission E) (answer : PlainStepAnswer) (o : Option plain.PlainOpenAttempt) → IfOk r (λ u. u ≡ s) → IfOk r (λ u. AttemptBegins m k u answer o)
    → OnErr r ((answer ≡ out_of_memory) × (o ≡ None)) → AttemptBegins m k s answer o
begins_with m k s (Ok u) answer o same h wanting = subst (λ z. AttemptBegins m k z answer o) same h
begins_with m k s (Err e) answer o same h wanting = subst (λ z. AttemptBegins m k s z o) (sym wanting.0) wanting.1
