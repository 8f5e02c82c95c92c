-- A submission of a pass is decided atomically, and its takes continue.
use Rattle.std.proofs.Common.{◌≡◌, ℕ, Bool, true, false, cond, nat_eq, List, Option, None, Some, option_map, Result, Ok, Err, IfOk, Vec, refl, sym, ap, ◌∙◌, subst}
use Rattle.std.specs.Global.{Global}
use Rattle.std.specs.declared.alloc.AllocError.{AllocError}
use Rattle.sdb_oplog.specs.Plain.{PlainEntry, PlainSubmission}
use Rattle.sdb_oplog.specs.Keys.{PlainKey, shard_of}
use Rattle.sdb_oplog.specs.Decide.{PlainReply, refused}
use Rattle.sdb_oplog.specs.declared.codes.Code.TheVariants.{E10}
use Rattle.sdb_subscribe.specs.Queue.{PlainQueue, queue_at, pending_entries, take_result_by, is_queue_of}
use Rattle.sdb_desk.specs.ShardView.{machine_of}
use Rattle.sdb_desk.specs.View.{taken_view}
use Rattle.sdb_desk.specs.Machine.{PlainLook, PlainAttempt, IsUnchanged, decided, moved}
use Rattle.sdb_submit.specs.Calls.{PlainCall, look, commit, commit_now, take_next, CallAnswer, MachineStep}
use Rattle.sdb_submit.specs.SubmitLoop.{SubmitRelation}
use Rattle.sdb_submit.specs.laws.SubmitLaws.{IsSubmitInvariant, submit_preserves, decided_at_commit, out_of_memory_unchanged}
use Rattle.sdb_striped_lock.specs.laws.SeatLaws.{have_seen_unique}
use Rattle.sdb_backend.specs.CallAnswers.{RunsAtExtension, AnsweredAtExtension, PassCalls, AddsEntry, TakeContinues}
use Rattle.sdb_backend.specs.HistoryOrder.{Extends, share_of, queue_owned_by, AddsToShare, Share}
use Rattle.sdb_backend.specs.HistoryOrderLaws.{extends_trans}
use Rattle.sdb_backend.specs.PassModel.{pass_number}
use Rattle.sdb_backend.proofs.HistoryGrowth.{same_grown, decides_adds}
use Rattle.sdb_backend.specs.declared.shard_value.Held.{Held}
use Rattle.sdb_backend.specs.declared.pass.Pass.{Pass}

-- a run, by what is known of it at its history
abbrev pub run_at_same_history : {k : PlainKey} {runs other : Held → Held → Type 0} {p q : Pass} → (d : RunsAtExtension k runs p q) → other d.history d.next
    → RunsAtExtension k other p q
run_at_same_history d ran =
    record {
      observed = d.observed;
      history = d.history;
      next = d.next;
      seen_before = d.seen_before;
      extends = d.extends;
      share_unchanged = d.share_unchanged;
      ran = ran;
      seen_after = d.seen_after;
      number_unchanged = d.number_unchanged;
      others_unchanged = d.others_unchanged;
    }

-- ---- one call after another

-- a call after one that changed nothing
pub answered_after_unchanged : (k : PlainKey) (c e : PlainCall) (a : CallAnswer c) (b : CallAnswer e) (p o q : Pass) (h : AnsweredAtExtension k c p a o)
    → IsUnchanged (machine_of h.history.shard) (machine_of h.next.shard) → AnsweredAtExtension k e o b q → AnsweredAtExtension k e p b q
answered_after_unchanged k c e a b p o q h same d =
    let n = pass_number p in
    let x = machine_of h.observed.shard in
    let at = machine_of h.history.shard in
    let left = machine_of h.next.shard in
    let next = machine_of d.history.shard in
    let one : d.observed ≡ h.next = have_seen_unique o.seats (shard_of k) d.observed h.next d.seen_before h.seen_after in
    let ext : Extends next left = subst (λ (y : Held). Extends next (machine_of y.shard)) one d.extends in
    let kept : share_of n left ≡ share_of n next =
    subst (λ (m : ℕ). share_of m left ≡ share_of m next) h.number_unchanged (subst (λ (y : Held). share_of (pass_number o) (machine_of y.shard) ≡ share_of (pass_number o) next) one d.share_unchanged) in
    let still : share_of n at ≡ share_of n left = λ i. share_of n (record { logs = sym same.0 i; queues = sym same.1 i }) in
    record {
      observed = h.observed;
      history = d.history;
      next = d.next;
      seen_before = h.seen_before;
      extends = extends_trans x left next ext (extends_trans x at left (same_grown n at left same).extends h.extends);
      share_unchanged = h.share_unchanged ∙ still ∙ kept;
      ran = subst (λ (m : ℕ). MachineStep m next k e b (machine_of d.next.shard)) h.number_unchanged d.ran;
      seen_after = d.seen_after;
      number_unchanged = d.number_unchanged ∙ h.number_unchanged;
      others_unchanged = λ j t ne. d.others_unchanged j t ne ∙ h.others_unchanged j t ne;
    }

module _ (k : PlainKey) (s : PlainSubmission) (now : ℕ) where
  -- the submission gets the machine's answer at one history
  abbrev pub AtomicSubmitHere : Pass → PlainReply → Pass → Type 0
  AtomicSubmitHere p r q = AnsweredAtExtension k (commit_now s now) p r q

  abbrev attempt_of_look : PlainLook → PlainAttempt
  attempt_of_look l = record { submission = s; look = l }

  one_step_unchanged : IsSubmitInvariant (PassCalls k) s now AtomicSubmitHere
  one_step_unchanged = record {
    look_failed = λ p o q r h d. answered_after_unchanged k (look s) (commit_now s now) None r p o q h h.ran.1 d;
    look_taken = λ p o q l r h d. answered_after_unchanged k (look s) (commit_now s now) (Some l) r p o q h h.ran.1 d;
    commit_moved = λ p o q l m r h d. answered_after_unchanged k (commit (attempt_of_look l) now) (commit_now s now) (moved m) r p o q h (h.ran.0.2, h.ran.1) d;
    work_failed = λ p o q l r h d.
        answered_after_unchanged k (commit (attempt_of_look l) now) (commit_now s now) (decided (refused E10)) r p o q h
        (out_of_memory_unchanged (machine_of h.history.shard).logs (machine_of h.next.shard).logs k (attempt_of_look l) now h.ran.0, h.ran.1) d;
    commit_decided = λ p q l r h isnt.
        run_at_same_history h (decided_at_commit (machine_of h.history.shard).logs (machine_of h.next.shard).logs k (attempt_of_look l) now r isnt h.ran.0, h.ran.1);
    commit_now_decided = λ p q r h. h;
  }

  pub in_one_step : (p q : Pass) (r : PlainReply) → SubmitRelation (PassCalls k) s now p r q → AtomicSubmitHere p r q
  in_one_step p q r h = submit_preserves (PassCalls k) s now AtomicSubmitHere one_step_unchanged p r q h

  -- a reply `stored` adds one entry
  pub step_adds : (p q : Pass) (r : PlainReply) → AtomicSubmitHere p r q → s.by ≡ pass_number p → AddsEntry k s now p r q
  step_adds p q r h by =
      let n = pass_number p in
      record {
        observed = h.observed;
        next = h.next;
        seen_before = h.seen_before;
        seen_after = h.seen_after;
        adds = subst (λ (o : Share). AddsToShare k s now r o (share_of n (machine_of h.next.shard))) (sym h.share_unchanged)
            (decides_adds n (machine_of h.history.shard) (machine_of h.next.shard) k s now r by h.ran.1 h.ran.0);
      }

-- ---- a take

owned_or : (b : Bool) (log : List PlainEntry) (max : ℕ) (w : PlainQueue) (o : Option PlainQueue) → o ≡ Some w
    → cond b (option_map (pending_entries log max) o) None ≡ option_map (pending_entries log max) (cond b (Some w) None)
owned_or true log max w o e = ap (option_map (pending_entries log max)) e
owned_or false log max w o e = refl

taken_at : (log : List PlainEntry) (by n max : ℕ) (qs : List (ℕ × PlainQueue)) (o : Option PlainQueue) → queue_at n qs ≡ o
    → cond (is_queue_of by o) (option_map (pending_entries log max) (queue_at n qs)) None ≡ option_map (pending_entries log max) (queue_owned_by by o)
taken_at log by n max qs None e = refl
taken_at log by n max qs (Some w) e = owned_or (nat_eq w.by by) log max w (queue_at n qs) e

taken_is : (log : List PlainEntry) (by n max : ℕ) (qs : List (ℕ × PlainQueue)) → take_result_by log by n max qs ≡ option_map (pending_entries log max) (queue_owned_by by (queue_at n qs))
taken_is log by n max qs = taken_at log by n max qs (queue_at n qs) refl

-- a take continues at the observed position of the queue
pub take_answer : (k : PlainKey) (id max : ℕ) (p q : Pass) (r : Result (Option (Vec PlainEntry Global)) AllocError) → AnsweredAtExtension k (take_next id max) p (taken_view r) q
    → IfOk r (λ v. TakeContinues k id max p (option_map (λ es. es.items) v) q)
take_answer k id max p q (Ok v) h =
    let log = (machine_of h.history.shard).logs k in
    record {
      observed = h.observed;
      history = h.history;
      next = h.next;
      seen_before = h.seen_before;
      seen_after = h.seen_after;
      extends = h.extends;
      entries_are = h.ran.0.0 ∙ taken_is log (pass_number p) id max ((machine_of h.history.shard).queues k).queues ∙ ap (λ (o : Share). option_map (pending_entries log max) (o.queues k id)) (sym h.share_unchanged);
    }
take_answer k id max p q (Err e) h = tt
