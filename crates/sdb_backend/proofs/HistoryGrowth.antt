-- Each call extends the machine and changes only the share of the caller's number.
use Rattle.std.proofs.Common.{◌≡◌, ◌≢◌, ℕ, ◌+◌, ◌≤◌, ◌⊎◌, inl, inr, Bool, true, false, cond, List, [], ◌∷◌, ◌++◌, length, max, nat_eq, Option, Some, None, unwrap_or, Result, Ok, Err, refl, sym, ap, ◌∙◌, subst, arith, append-nil}
use Rattle.std.proofs.lemmas.Bool.Decides.{eqb_tells}
use Rattle.std.proofs.lemmas.Bool.{eqb-true, eq-eqb}
use Rattle.std.proofs.Math.Nat.{le-max_left}
use Rattle.sdb_oplog.specs.Plain.{PlainEntry, PlainSubmission, PlainContent}
use Rattle.sdb_oplog.specs.Keys.{PlainKey, with_log, keys_equal}
use Rattle.sdb_oplog.specs.Decide.{PlainReply, stored, repeated, refused, Decision, decide, append_decided, rebased_content, missed_entries, new_entry}
use Rattle.sdb_oplog.specs.laws.LogLaws.{decides_repeat, decides_settled}
use Rattle.sdb_oplog.specs.Moments.{last_moment}
use Rattle.sdb_oplog.specs.Snap.{stored_at}
use Rattle.sdb_oplog.specs.declared.codes.Code.{Code}
use Rattle.sdb_oplog.specs.declared.codes.Code.TheVariants.{E11}
use Rattle.sdb_subscribe.specs.Queue.{PlainQueue, PlainQueues, queue_at, open_queue, advance, queues_after_take, queues_after_take_by, remove_queue, remove_queue_by, is_queue_of, is_open_by}
use Rattle.sdb_subscribe.specs.laws.QueueLaws.{queue_at_opened_other, queue_at_taken, queue_at_taken_other, queue_at_removed_other}
use Rattle.sdb_desk.specs.laws.KeyLaws.{eq_of_keys_equal}
use Rattle.sdb_desk.specs.laws.MapLaws.{value_of_updated}
use Rattle.std.specs.Result.{result_ok}
use Rattle.sdb_desk.specs.Machine.{Machine, PlainAttempt, PlainOutcome, decided, moved as moved_on, with_queues, close_queue, queue_start, subscribe_opened, subscribe_from_start, DecidesOrOutOfMemory, CommitsOrOutOfMemory, SubscribesOrOutOfMemory, TakesOrOutOfMemory, IsUnchanged, PlainSubscribeResult}
use Rattle.sdb_submit.specs.Calls.{PlainCall, look, commit, commit_now, current_version, fetch, ops_from, ops_between, snapshot, snapshot_at_time, forget, subscribe, take_next, unsubscribe, CallAnswer, MachineStep}
use Rattle.sdb_desk.specs.ShardState.{ShardState, machine_of_state}
use Rattle.sdb_submit.specs.laws.ShardLaws.{IsCallOfState}
use Rattle.sdb_backend.specs.HistoryOrder.{IsExtension, QueueContinues, QueuesContinue, Extends, stored_by, queue_owned_by, share_of, AddsToShare, Share}
use Rattle.sdb_backend.specs.PassRuns.{IsCallUnder}
use Rattle.sdb_backend.specs.HistoryOrderLaws.{is_extension_refl, queue_continues_refl, queues_continue_refl}

-- ---- the share of a number in logs

-- the log is unchanged and the reply isn't `stored`, or one entry is appended and its version is the reply's
abbrev pub IsStoredReply : PlainReply → Type 0
IsStoredReply (stored v es) = Unit {0}
IsStoredReply (repeated v) = ⊥
IsStoredReply (refused code) = ⊥

abbrev pub LogGainsEntry : List PlainEntry → PlainSubmission → ℕ → PlainReply → List PlainEntry → Type 0
LogGainsEntry log s now r new =
    ((IsStoredReply r → ⊥) × (new ≡ log))
    ⊎ ((m : PlainContent) × (r ≡ stored (length log) (missed_entries log s)) × (new ≡ log ++ new_entry log s now m ∷ []))

store_adds : (log : List PlainEntry) (s : PlainSubmission) (now : ℕ) (r : Result PlainContent Code) → LogGainsEntry log s now (append_decided log s now r).reply (append_decided log s now r).log
store_adds log s now (Err c) = inl (λ x. x, refl)
store_adds log s now (Ok m) = inr (m, refl, refl)

adds_by : (log : List PlainEntry) (s : PlainSubmission) (now : ℕ) (o : Option ℕ) → stored_at s.src s.seq log ≡ o
    → LogGainsEntry log s now (decide log s now).reply (decide log s now).log
adds_by log s now (Some i) e =
    let P : Decision → Type 0 = λ d. LogGainsEntry log s now d.reply d.log in
    subst P (sym (decides_repeat log s now i e)) (inl (λ x. x, refl))
adds_by log s now None e =
    let P : Decision → Type 0 = λ d. LogGainsEntry log s now d.reply d.log in
    subst P (sym (decides_settled log s now (rebased_content log s) e refl)) (store_adds log s now (rebased_content log s))

pub decide_adds : (log : List PlainEntry) (s : PlainSubmission) (now : ℕ) → LogGainsEntry log s now (decide log s now).reply (decide log s now).log
decide_adds log s now = adds_by log s now (stored_at s.src s.seq log) refl

longer_added : (log : List PlainEntry) (s : PlainSubmission) (now : ℕ) (r : PlainReply) (new : List PlainEntry) → LogGainsEntry log s now r new → IsExtension new log
longer_added log s now r new (inl h) = ([], h.1 ∙ sym (append-nil log))
longer_added log s now r new (inr h) = (new_entry log s now h.0 ∷ [], h.2)

-- an entry of another number
past_entry : (b : Bool) (n : ℕ) (e : PlainEntry) (l : List PlainEntry) → nat_eq e.arrived.by n ≡ b → (e.arrived.by ≡ n → ⊥) → cond b (e ∷ l) l ≡ l
past_entry true n e l is ne = absurd (ne (eqb-true e.arrived.by n is))
past_entry false n e l is ne = refl

pub stored_other : (n : ℕ) (es : List PlainEntry) (e : PlainEntry) → (e.arrived.by ≡ n → ⊥) → stored_by n (es ++ e ∷ []) ≡ stored_by n es
stored_other n [] e ne = past_entry (nat_eq e.arrived.by n) n e [] refl ne
stored_other n (x ∷ es) e ne = ap (λ l. cond (nat_eq x.arrived.by n) (x ∷ l) l) (stored_other n es e ne)

stored_by_append_other : (j : ℕ) (log : List PlainEntry) (s : PlainSubmission) (now : ℕ) (r : PlainReply) (new : List PlainEntry) → (s.by ≡ j → ⊥) → LogGainsEntry log s now r new → stored_by j log ≡ stored_by j new
stored_by_append_other j log s now r new ne (inl h) = ap (stored_by j) (sym h.1)
stored_by_append_other j log s now r new ne (inr h) = sym (stored_other j log (new_entry log s now h.0) ne) ∙ ap (stored_by j) (sym h.2)

-- ---- from the written key and the unchanged ones to all keys

wrote_or : {A : Type 0} (b : Bool) (R : A → A → Type 0) (f : PlainKey → A) (k q : PlainKey) (w : A) → keys_equal k q ≡ b → R (f q) (f q) → R w (f k) → R (cond b w (f q)) (f q)
wrote_or true R f k q w is stays writes = subst (λ x. R w (f x)) (eq_of_keys_equal k q is) writes
wrote_or false R f k q w is stays writes = stays

at_each : {A : Type 0} (R : A → A → Type 0) (f g : PlainKey → A) (k : PlainKey) (w : A) → ((a : A) → R a a) → R w (f k)
    → g ≡ (λ q. cond (keys_equal k q) w (f q)) → (q : PlainKey) → R (g q) (f q)
at_each R f g k w itself writes e q =
    subst (λ x. R (x q) (f q)) (sym e) (wrote_or (keys_equal k q) R f k q w refl (itself (f q)) writes)

-- ---- each call

-- the machine after a call extends the one before, and the shares of other numbers are equal
pub record MachineGrows (n : ℕ) (m new : Machine) : Type 0 where
  pub extends : Extends new m
  pub others : (j : ℕ) → j ≢ n → share_of j m ≡ share_of j new

-- the share of j in the queues of one key
abbrev OtherQueuesSame : ℕ → PlainQueues → PlainQueues → Type 0
OtherQueuesSame j new old = (i : ℕ) → queue_owned_by j (queue_at i old.queues) ≡ queue_owned_by j (queue_at i new.queues)

shares_same : (j : ℕ) (m new : Machine) → ((k : PlainKey) → stored_by j (m.logs k) ≡ stored_by j (new.logs k)) → ((k : PlainKey) → OtherQueuesSame j (new.queues k) (m.queues k))
    → share_of j m ≡ share_of j new
shares_same j m new entries queues = λ x. record { entries = λ k. entries k x; queues = λ k i. queues k i x }

pub logs_same : (n : ℕ) (m new : Machine) → ((k : PlainKey) → QueuesContinue (new.queues k) (m.queues k)) → ((j : ℕ) → j ≢ n → (k : PlainKey) → OtherQueuesSame j (new.queues k) (m.queues k))
    → new.logs ≡ m.logs → MachineGrows n m new
logs_same n m new queues others e = record {
  extends = record { logs = λ k. ([], ap (λ l. l k) e ∙ sym (append-nil (m.logs k))); queues = queues };
  others = λ j ne. shares_same j m new (λ k. ap (λ l. stored_by j (l k)) (sym e)) (others j ne);
}

pub queues_same : (m new : Machine) → new.queues ≡ m.queues → (k : PlainKey) → QueuesContinue (new.queues k) (m.queues k)
queues_same m new e k = subst (λ f. QueuesContinue (f k) (m.queues k)) (sym e) (queues_continue_refl (m.queues k))

others_same : (j : ℕ) (m new : Machine) → new.queues ≡ m.queues → (k : PlainKey) → OtherQueuesSame j (new.queues k) (m.queues k)
others_same j m new e k i = ap (λ f. queue_owned_by j (queue_at i (f k).queues)) (sym e)

pub same_grown : (n : ℕ) (m new : Machine) → IsUnchanged m new → MachineGrows n m new
same_grown n m new h = logs_same n m new (queues_same m new h.1) (λ j ne. others_same j m new h.1) h.0

decided_grown : (n : ℕ) (m new : Machine) (k : PlainKey) (s : PlainSubmission) (now : ℕ) → s.by ≡ n → new.queues ≡ m.queues
    → new.logs ≡ with_log m.logs k (decide (m.logs k) s now).log → MachineGrows n m new
decided_grown n m new k s now by queues e =
    let d = decide (m.logs k) s now in
    record {
      extends = record {
        logs = at_each IsExtension m.logs new.logs k d.log is_extension_refl (longer_added (m.logs k) s now d.reply d.log (decide_adds (m.logs k) s now)) e;
        queues = queues_same m new queues;
      };
      others = λ j ne. shares_same j m new
          (λ q. at_each (λ a b. stored_by j b ≡ stored_by j a) m.logs new.logs k d.log (λ a. refl)
          (stored_by_append_other j (m.logs k) s now d.reply d.log (λ x. ne (sym x ∙ by)) (decide_adds (m.logs k) s now)) e q)
          (others_same j m new queues);
    }

decides_grown : (n : ℕ) (m new : Machine) (k : PlainKey) (s : PlainSubmission) (now : ℕ) (r : PlainReply) → s.by ≡ n → new.queues ≡ m.queues
    → DecidesOrOutOfMemory m.logs k s now r new.logs → MachineGrows n m new
decides_grown n m new k s now r by queues (inl h) = same_grown n m new (h.1, queues)
decides_grown n m new k s now r by queues (inr h) = decided_grown n m new k s now by queues h.1

commits_grown : (n : ℕ) (m new : Machine) (k : PlainKey) (a : PlainAttempt) (now : ℕ) (o : PlainOutcome) → a.submission.by ≡ n → new.queues ≡ m.queues
    → CommitsOrOutOfMemory m.logs k a now o new.logs → MachineGrows n m new
commits_grown n m new k a now (decided r) by queues (inl h) = same_grown n m new (h.1, queues)
commits_grown n m new k a now (decided r) by queues (inr h) = decided_grown n m new k a.submission now by queues h.2
commits_grown n m new k a now (moved_on l) by queues h = same_grown n m new (h.2, queues)

-- ---- queue calls: each queue continues, and the shares of other numbers are equal

pub record QueuesMove (n : ℕ) (new old : PlainQueues) : Type 0 where
  pub continues : QueuesContinue new old
  pub others : (j : ℕ) → j ≢ n → OtherQueuesSame j new old

moves_itself : (n : ℕ) (q : PlainQueues) → QueuesMove n q q
moves_itself n q = record { continues = queues_continue_refl q; others = λ j ne i. refl }

-- a queue of another number
mine_of_other : (b : Bool) (j : ℕ) (w : PlainQueue) → nat_eq w.by j ≡ b → (w.by ≡ j → ⊥) → cond b (Some w) None ≡ None
mine_of_other true j w is ne = absurd (ne (eqb-true w.by j is))
mine_of_other false j w is ne = refl

mine_none : (j : ℕ) (w : PlainQueue) → (w.by ≡ j → ⊥) → queue_owned_by j (Some w) ≡ None
mine_none j w ne = mine_of_other (nat_eq w.by j) j w refl ne

-- the queue for which the test of its owner succeeded
owned_by : (n : ℕ) (o : Option PlainQueue) → is_queue_of n o ≡ true → (w : PlainQueue) × ((o ≡ Some w) × (w.by ≡ n))
owned_by n None e = cc
owned_by n (Some w) e = (w, (refl, eqb-true w.by n e))

opened_past : (b : Bool) (j : ℕ) (o p q : Option PlainQueue) → queue_owned_by j p ≡ queue_owned_by j q → queue_owned_by j (cond b o p) ≡ queue_owned_by j (cond b o q)
opened_past true j o p q h = refl
opened_past false j o p q h = h

opened_mine : (j i n : ℕ) (w : PlainQueue) (qs : List (ℕ × PlainQueue)) → (w.by ≡ j → ⊥) → queue_owned_by j (queue_at i qs) ≡ queue_owned_by j (queue_at i (qs ++ (n, w) ∷ []))
opened_mine j i n w [] ne = sym (mine_cond_none (nat_eq i n)) where
  mine_cond_none : (b : Bool) → queue_owned_by j (cond b (Some w) None) ≡ None
  mine_cond_none true = mine_none j w ne
  mine_cond_none false = refl
opened_mine j i n w (q ∷ qs) ne = opened_past (nat_eq i q.0) j (Some q.1) (queue_at i qs) (queue_at i (qs ++ (n, w) ∷ [])) (opened_mine j i n w qs ne)

moves_opened : (from by : ℕ) (q : PlainQueues) → QueuesMove by (record { next = q.next + 1; queues = q.queues ++ (q.next, record { start = from; taken = 0; by = by }) ∷ [] }) q
moves_opened from by q = record {
  continues = record {
    next_id_not_lower = omega arith;
    each_continues = λ n l. subst (λ o. QueueContinues o (queue_at n q.queues))
        (sym (queue_at_opened_other n q.next (record { start = from; taken = 0; by = by }) q.queues (λ e. omega (arith, l, e)))) (queue_continues_refl (queue_at n q.queues));
  };
  others = λ j ne i. opened_mine j i q.next (record { start = from; taken = 0; by = by }) q.queues (λ e. ne (sym e));
}

opened_or : (b : Bool) (from by : ℕ) (q new : PlainQueues)
    → cond b (Err E11) (Ok (record { next = q.next + 1; queues = q.queues ++ (q.next, record { start = from; taken = 0; by = by }) ∷ [] })) ≡ Ok new → QueuesMove by new q
opened_or true from by q new e = cc
opened_or false from by q new e = subst (λ x. QueuesMove by x q) (ap (λ (r : Result PlainQueues Code). unwrap_or (result_ok r) q) e) (moves_opened from by q)

moves_opening : (log : List PlainEntry) (by v : ℕ) (q : PlainQueues) (r : Result PlainQueues Code) → open_queue by v q ≡ r → QueuesMove by (subscribe_opened log v q r).queues q
moves_opening log by v q (Err c) e = moves_itself by q
moves_opening log by v q (Ok new) e = opened_or (nat_eq q.next 18446744073709551615) v by q new e

moves_subscribing : (log : List PlainEntry) (by : ℕ) (q : PlainQueues) (r : Result ℕ Code) → QueuesMove by (subscribe_from_start log by q r).queues q
moves_subscribing log by q (Err c) = moves_itself by q
moves_subscribing log by q (Ok v) = moves_opening log by v q (open_queue by v q) refl

moves_subscribes : (log : List PlainEntry) (by : ℕ) (v : Option ℕ) (q : PlainQueues) (r : Result PlainSubscribeResult Code) (new : PlainQueues) → SubscribesOrOutOfMemory log by v q r new → QueuesMove by new q
moves_subscribes log by v q r new (inl h) = subst (λ x. QueuesMove by x q) (sym h.1) (moves_itself by q)
moves_subscribes log by v q r new (inr h) = subst (λ x. QueuesMove by x q) (sym h.1) (moves_subscribing log by q (queue_start log v))

-- one queue changes or is closed; it belongs to n before and after
abbrev QueueChangesAt : ℕ → List (ℕ × PlainQueue) → List (ℕ × PlainQueue) → ℕ → Type 0
QueueChangesAt by new old k = QueueContinues (queue_at k new) (queue_at k old) × ((j : ℕ) → j ≢ by → queue_owned_by j (queue_at k old) ≡ queue_owned_by j (queue_at k new))

at_same : (by k : ℕ) (new old : List (ℕ × PlainQueue)) → queue_at k new ≡ queue_at k old → QueueChangesAt by new old k
at_same by k new old e = (subst (λ o. QueueContinues o (queue_at k old)) (sym e) (queue_continues_refl (queue_at k old)), λ j ne. ap (queue_owned_by j) (sym e))

at_moved : (by k : ℕ) (new old : List (ℕ × PlainQueue)) (w v : PlainQueue) → queue_at k old ≡ Some w → queue_at k new ≡ Some v → w.by ≡ by
    → v.start ≡ w.start → w.taken ≤ v.taken → v.by ≡ w.by → QueueChangesAt by new old k
at_moved by k new old w v was is of start taken same = (
  subst (λ o. QueueContinues o (queue_at k old)) (sym is) (subst (λ o. QueueContinues (Some v) o) (sym was) (start, taken, same)),
  λ j ne. ap (queue_owned_by j) was ∙ mine_none j w (λ e. ne (sym e ∙ of)) ∙ sym (mine_none j v (λ e. ne (sym e ∙ (same ∙ of)))) ∙ ap (queue_owned_by j) (sym is),
)

at_closed : (by k : ℕ) (new old : List (ℕ × PlainQueue)) (w : PlainQueue) → queue_at k old ≡ Some w → queue_at k new ≡ None → w.by ≡ by → QueueChangesAt by new old k
at_closed by k new old w was is of =
    (subst (λ o. QueueContinues o (queue_at k old)) (sym is) tt, λ j ne. ap (queue_owned_by j) was ∙ mine_none j w (λ e. ne (sym e ∙ of)) ∙ ap (queue_owned_by j) (sym is))

taken_or : (log : List PlainEntry) (by k n max : ℕ) (qs : List (ℕ × PlainQueue)) → is_open_by by n qs ≡ true → ((nat_eq k n ≡ true) × (k ≡ n)) ⊎ ((nat_eq k n ≡ false) × (k ≡ n → ⊥)) → QueueChangesAt by (queues_after_take log n max qs) qs k
taken_or log by k n max qs owned (inl t) =
    let o = owned_by by (queue_at n qs) owned in
    subst (λ x. QueueChangesAt by (queues_after_take log n max qs) qs x) (sym t.1)
    (at_moved by n (queues_after_take log n max qs) qs o.0 (advance log max o.0) o.1.0 (queue_at_taken log n max o.0 qs o.1.0) o.1.1 refl (omega arith) refl)
taken_or log by k n max qs owned (inr f) = at_same by k (queues_after_take log n max qs) qs (queue_at_taken_other log k n max qs f.1)

after_or : (b : Bool) (log : List PlainEntry) (by k n max : ℕ) (qs : List (ℕ × PlainQueue)) → is_open_by by n qs ≡ b → QueueChangesAt by (cond b (queues_after_take log n max qs) qs) qs k
after_or true log by k n max qs owned = taken_or log by k n max qs owned (eqb_tells k n)
after_or false log by k n max qs owned = at_same by k qs qs refl

moves_takes : (log : List PlainEntry) (by n max : ℕ) (q : PlainQueues) (o : Option (Option (List PlainEntry))) (new : PlainQueues) → TakesOrOutOfMemory log by n max q o new → QueuesMove by new q
moves_takes log by n max q None new h = subst (λ x. QueuesMove by x q) (sym h.0) (moves_itself by q)
moves_takes log by n max q (Some r) new h =
    let at : (k : ℕ) → QueueChangesAt by (queues_after_take_by log by n max q.queues) q.queues k = λ k. after_or (is_open_by by n q.queues) log by k n max q.queues refl in
    subst (λ x. QueuesMove by x q) (sym h.1) (record { continues = record { next_id_not_lower = omega arith; each_continues = λ k l. (at k).0 }; others = λ j ne i. (at i).1 j ne })

closed_or : (by k n : ℕ) (qs : List (ℕ × PlainQueue)) → is_open_by by n qs ≡ true → queue_at n (remove_queue n qs) ≡ None
    → ((nat_eq k n ≡ true) × (k ≡ n)) ⊎ ((nat_eq k n ≡ false) × (k ≡ n → ⊥)) → QueueChangesAt by (remove_queue n qs) qs k
closed_or by k n qs owned gone (inl t) =
    let o = owned_by by (queue_at n qs) owned in
    subst (λ x. QueueChangesAt by (remove_queue n qs) qs x) (sym t.1) (at_closed by n (remove_queue n qs) qs o.0 o.1.0 gone o.1.1)
closed_or by k n qs owned gone (inr f) = at_same by k (remove_queue n qs) qs (queue_at_removed_other k n qs f.1)

without_or : (b : Bool) (by k n : ℕ) (qs : List (ℕ × PlainQueue)) → is_open_by by n qs ≡ b → (is_open_by by n qs ≡ true → queue_at n (cond b (remove_queue n qs) qs) ≡ None) → QueueChangesAt by (cond b (remove_queue n qs) qs) qs k
without_or true by k n qs owned gone = closed_or by k n qs owned (gone owned) (eqb_tells k n)
without_or false by k n qs owned gone = at_same by k qs qs refl

moves_closed : (by n : ℕ) (q new : PlainQueues) → (is_open_by by n q.queues ≡ true → queue_at n new.queues ≡ None) → new ≡ close_queue by n q → QueuesMove by new q
moves_closed by n q new gone e =
    let at : (k : ℕ) → QueueChangesAt by (remove_queue_by by n q.queues) q.queues k =
    λ k. without_or (is_open_by by n q.queues) by k n q.queues refl (λ o. ap (λ x. queue_at n x.queues) (sym e) ∙ gone o) in
    subst (λ x. QueuesMove by x q) (sym e) (record { continues = record { next_id_not_lower = omega arith; each_continues = λ k l. (at k).0 }; others = λ j ne i. (at i).1 j ne })

queues_grown : (n : ℕ) (m new : Machine) (k : PlainKey) (w : PlainQueues) → QueuesMove n w (m.queues k) → new.queues ≡ with_queues m.queues k w → new.logs ≡ m.logs → MachineGrows n m new
queues_grown n m new k w moves queues logs =
    let each : (q : PlainKey) → QueuesMove n (new.queues q) (m.queues q) = at_each (QueuesMove n) m.queues new.queues k w (moves_itself n) moves queues in
    logs_same n m new (λ q. (each q).continues) (λ j ne q. (each q).others j ne) logs

-- ---- every call

pub acts_grown : (n : ℕ) (m : Machine) (k : PlainKey) (c : PlainCall) (a : CallAnswer c) (new : Machine) → IsCallUnder n c → MachineStep n m k c a new → MachineGrows n m new
acts_grown n m k (look s) a new by h = same_grown n m new h.1
acts_grown n m k (commit w now) a new by h = commits_grown n m new k w now a by h.1 h.0
acts_grown n m k (commit_now s now) a new by h = decides_grown n m new k s now a by h.1 h.0
acts_grown n m k current_version a new by h = same_grown n m new h.1
acts_grown n m k fetch a new by h = same_grown n m new h.1
acts_grown n m k (ops_from v) a new by h = same_grown n m new h.1
acts_grown n m k (ops_between v w) a new by h = same_grown n m new h.1
acts_grown n m k (snapshot v) a new by h = same_grown n m new h.1
acts_grown n m k (snapshot_at_time t) a new by h = same_grown n m new h.1
acts_grown n m k forget a new by h = same_grown n m new h
acts_grown n m k (subscribe v) a new by h =
    queues_grown n m new k (new.queues k) (moves_subscribes (m.logs k) n v (m.queues k) a (new.queues k) h.0) h.1 h.2
acts_grown n m k (take_next i max) a new by h =
    queues_grown n m new k (new.queues k) (moves_takes (m.logs k) n i max (m.queues k) a (new.queues k) h.0) h.1 h.2
acts_grown n m k (unsubscribe i) a new by h =
    let here : new.queues k ≡ close_queue n i (m.queues k) = value_of_updated m.queues new.queues k (close_queue n i (m.queues k)) h.0 in
    queues_grown n m new k (close_queue n i (m.queues k))
    (subst (λ x. QueuesMove n x (m.queues k)) here (moves_closed n i (m.queues k) (new.queues k) h.1 here)) h.0 h.2

pub call_grown : (n : ℕ) (old : ShardState) (k : PlainKey) (c : PlainCall) (a : CallAnswer c) (new : ShardState) → IsCallUnder n c
    → IsCallOfState n old k c a new → MachineGrows n (machine_of_state old) (machine_of_state new)
call_grown n old k c a new by h = acts_grown n (machine_of_state old) k c a (machine_of_state new) by h.step

-- ---- the effect of a decision on its number's share

mine_or : (b : Bool) (n : ℕ) (e : PlainEntry) (l : List PlainEntry) → nat_eq e.arrived.by n ≡ b → e.arrived.by ≡ n → cond b (e ∷ l) l ≡ e ∷ l
mine_or true n e l is by = refl
mine_or false n e l is by = let x : nat_eq e.arrived.by n ≡ true = eq-eqb e.arrived.by n by in cc

pub stored_mine : (n : ℕ) (es : List PlainEntry) (e : PlainEntry) → e.arrived.by ≡ n → stored_by n (es ++ e ∷ []) ≡ stored_by n es ++ e ∷ []
stored_mine n [] e by = mine_or (nat_eq e.arrived.by n) n e [] refl by
stored_mine n (x ∷ es) e by = stored_by_append (nat_eq x.arrived.by n) x (stored_mine n es e by) where
  stored_by_append : (b : Bool) (x : PlainEntry) → stored_by n (es ++ e ∷ []) ≡ stored_by n es ++ e ∷ []
      → cond b (x ∷ stored_by n (es ++ e ∷ [])) (stored_by n (es ++ e ∷ [])) ≡ cond b (x ∷ stored_by n es) (stored_by n es) ++ e ∷ []
  stored_by_append true x h = ap (λ l. x ∷ l) h
  stored_by_append false x h = h

cond_map : {A B : Type 0} (f : A → B) (b : Bool) (x y : A) (z : B) → f x ≡ z → f (cond b x y) ≡ cond b z (f y)
cond_map f true x y z e = e
cond_map f false x y z e = refl

isnt_stored : (k : PlainKey) (s : PlainSubmission) (now : ℕ) (r : PlainReply) (old new : Share) → (IsStoredReply r → ⊥) → new ≡ old → AddsToShare k s now r old new
isnt_stored k s now (stored v es) old new isnt e = absurd (isnt tt)
isnt_stored k s now (repeated v) old new isnt e = e
isnt_stored k s now (refused code) old new isnt e = e

-- the entries of its number after a decision; no queue changes
own_adds : (n : ℕ) (m new : Machine) (k : PlainKey) (s : PlainSubmission) (now : ℕ) (d : Decision) → s.by ≡ n → new.queues ≡ m.queues → new.logs ≡ with_log m.logs k d.log
    → LogGainsEntry (m.logs k) s now d.reply d.log → AddsToShare k s now d.reply (share_of n m) (share_of n new)
own_adds n m new k s now d by queues logs (inl h) =
    isnt_stored k s now d.reply (share_of n m) (share_of n new) h.0
    (sym (shares_same n m new
    (λ q. sym (ap (λ f. stored_by n (f q)) logs ∙ cond_map (stored_by n) (keys_equal k q) d.log (m.logs q) (stored_by n (m.logs k)) (ap (stored_by n) h.1) ∙ stored_by_cond (keys_equal k q) q refl))
    (others_same n m new queues))) where
      stored_by_cond : (b : Bool) (q : PlainKey) → keys_equal k q ≡ b → cond b (stored_by n (m.logs k)) (stored_by n (m.logs q)) ≡ stored_by n (m.logs q)
      stored_by_cond true q e = ap (λ x. stored_by n (m.logs x)) (eq_of_keys_equal k q e)
      stored_by_cond false q e = refl
own_adds n m new k s now d by queues logs (inr h) =
    let e = new_entry (m.logs k) s now h.0 in
    subst (λ r. AddsToShare k s now r (share_of n m) (share_of n new)) (sym h.1) (
      max now (last_moment (m.logs k)),
      le-max_left now (last_moment (m.logs k)),
      h.0,
      λ x. record {
        entries = λ q. (ap (λ f. stored_by n (f q)) logs
            ∙ cond_map (stored_by n) (keys_equal k q) d.log (m.logs q) (stored_by n (m.logs k) ++ e ∷ []) (ap (stored_by n) h.2 ∙ stored_mine n (m.logs k) e by)) x;
        queues = λ q i. queue_owned_by n (queue_at i (queues x q).queues);
      },
    )

pub decides_adds : (n : ℕ) (m new : Machine) (k : PlainKey) (s : PlainSubmission) (now : ℕ) (r : PlainReply) → s.by ≡ n → new.queues ≡ m.queues → DecidesOrOutOfMemory m.logs k s now r new.logs
    → AddsToShare k s now r (share_of n m) (share_of n new)
decides_adds n m new k s now r by queues (inl h) =
    subst (λ r. AddsToShare k s now r (share_of n m) (share_of n new)) (sym h.0) (λ x. share_of n (record { logs = h.1 x; queues = queues x }))
decides_adds n m new k s now r by queues (inr h) =
    subst (λ r. AddsToShare k s now r (share_of n m) (share_of n new)) (sym h.0)
    (own_adds n m new k s now (decide (m.logs k) s now) by queues h.1 (decide_adds (m.logs k) s now))
