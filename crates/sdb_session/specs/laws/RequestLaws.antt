-- Laws of messages: alone with the machine, the answers to a message are those of its transition.
use Rattle.std.proofs.Common.{◌≡◌, ℕ, List, [], ◌∷◌, length, Bool, true, false, not, ◌&&◌, cond, nat_lt, ◌++◌, Option, Some, None, unwrap_or, Result, Ok, Err, ◌⊎◌, inl, inr, refl, sym, ap, ◌∙◌, subst}
use Rattle.std.specs.Result.{is_ok}
use Rattle.sdb_oplog.specs.declared.codes.Code.{Code}
use Rattle.sdb_oplog.specs.declared.codes.Code.TheVariants.{E10}
use Rattle.sdb_oplog.specs.Plain.{PlainEntry, PlainSubmission, PlainContent}
use Rattle.sdb_oplog.specs.Keys.{PlainKey}
use Rattle.sdb_oplog.specs.Decide.{PlainReply, refused, decide_allocates}
use Rattle.sdb_desk.specs.Machine.{Machine, IsUnchanged, PlainFetchResult, PlainSubscribeResult, DecidesOrOutOfMemory, ReadOrOutOfMemory, is_nonempty, operations_from}
use Rattle.sdb_projection.specs.Table.{PlainProjection}
use Rattle.sdb_submit.specs.Calls.{MachineStep, snapshot as snapshot_call, snapshot_at_time as at_time_call}
use Rattle.sdb_submit.specs.SubmitLoop.{CallRelation, PlainBatch, total_size, entries_of, TakesBatches}
use Rattle.sdb_submit.specs.laws.SubmitLaws.{submit_is_atomic, lists_all_is_operations}
use Rattle.sdb_wire.specs.Wire.{PlainEcho, parse_message, PlainRequest, hello, fetch, subscribe, unsubscribe, submit, snapshot, snapshot_at_time}
use Rattle.sdb_wire.specs.Answers.{PlainAnswer, failed}
use Rattle.sdb_session.specs.PolicyModel.{table_policy}
use Rattle.sdb_session.specs.ProjectionModel.{base_key, projection_of_key, is_permitted}
use Rattle.sdb_session.specs.Sessions.{QueueId, PlainSession, queue_of, is_subscription_full}
use Rattle.sdb_session.specs.Responses.{ReadResult, RequestResult, PlainSubscribeReply, response_of, submission_of, first_batch_len, limit_code, fetch_answers, list_answers, read_answers, submit_answers, snapshot_answers, moment_answers, subscribe_response, FetchCalls, SubmitCalls, RefuseCalls, CloseCalls, FailsToTake, OpenAndTakeCalls, SubscribeCalls, RequestCalls, MessageOutcome, TextOutcome}
use Rattle.sdb_session.specs.laws.MachineLaws.{same_machine, same_state, next_number, opens_ok, opens_err, takes_some, next_none, next_after, takes_none, closes_one, present_code, code_if}
use Rattle.sdb_session.specs.Dialogue.{pass_zero, State, Transition, Allocation, ok, failed_before, failed_after_open, subscribe_step_at, machine_after_open, next_entries, machine_after_take, machine_after_close, decide_result, subscribe_result, subscribe_or_refuse, machine_reply, transition_of_request, opens_queue, request_allocates, machine_after_failed_open, out_of_memory_transition, transition_with_allocation, transition_of_message, transition_of_line}

-- ---- one message

module _ {P : Type 0} (machine : P → Machine) where
  -- the calls of the machine, for passes that project to a machine
  abbrev pub MachineActs : PlainKey → CallRelation P
  MachineActs k c p a q = MachineStep pass_zero (machine p) k c a (machine q)

  abbrev pub state_at : P → PlainSession → State
  state_at p s = record { machine = machine p; session = s }

  -- the answers and the state after them are those of the transition
  abbrev pub IsTransition : Transition → (List PlainAnswer → Type 0) → PlainSession → P → Type 0
  IsTransition x says new q = says x.answers × (state_at q new ≡ x.state)

  abbrev Finds : List PlainProjection → PlainEcho → ℕ → PlainRequest → PlainSession → P → (List PlainAnswer → Type 0)
      → PlainSession → P → Type 0
  Finds t e now r s p says new q = (w : Allocation) × IsTransition (transition_with_allocation w t e (state_at p s) now r) says new q

  -- consecutive batches equal one read
  pub batches_taken : (x : QueueId) (xs : List PlainBatch) (p q : P) → TakesBatches (MachineActs x.base) x.id xs p q
      → (entries_of xs ≡ next_entries (machine p) x (total_size xs)) × (machine q ≡ machine_after_take (machine p) x (total_size xs))
  unfolding TakesBatches
  batches_taken x [] p q h =
      let none = next_none (machine p) x in
      (sym none.0, ap machine h ∙ sym none.1)
  batches_taken x (b ∷ xs) p q (a, (o, (acts, is, more))) =
      let here = takes_some (machine p) (machine o) x b.size a b.entries acts is in
      let below = batches_taken x xs o q more in
      let both = next_after (machine p) x b.size (total_size xs) in (
        (λ i. here.0 i ++ (below.0 ∙ ap (λ (z : Machine). next_entries z x (total_size xs)) here.1) i) ∙ sym both.0,
        below.1 ∙ ap (λ (z : Machine). machine_after_take z x (total_size xs)) here.1 ∙ sym both.1,
      )

  module _ (t : List PlainProjection) (e : PlainEcho) (now : ℕ) (s : PlainSession) (p : P)
      (says : List PlainAnswer → Type 0) (new : PlainSession) (q : P) where
    -- an allocation of the request failed
    wants : (r : PlainRequest) → request_allocates t (state_at p s) r ≡ true → machine q ≡ machine p → new ≡ s
        → says (failed e E10 ∷ []) → Finds t e now r s p says new q
    wants r h same is said =
        let m = state_at p s in
        let x = out_of_memory_transition e m m.machine in
        let y = transition_of_request t e m now r in
        let due : transition_with_allocation failed_before t e m now r ≡ x = ap (λ b. cond b x y) h in (
          failed_before,
          subst (λ (z : Transition). IsTransition z says new q) (sym due)
              (said, same_state (machine p) (machine q) s new same is),
        )

    abbrev IsOpened : PlainKey → Option ℕ → Type 0
    IsOpened k v = opens_queue t (state_at p s) k v ≡ true

    -- an allocation failed after the queue was opened
    lates : (k : PlainKey) (v : Option ℕ) → IsOpened k v
        → machine q ≡ machine_after_failed_open (machine p) (base_key t k) v → new ≡ s → says (failed e E10 ∷ [])
        → Finds t e now (subscribe k v) s p says new q
    lates k v h same is said =
        let m = state_at p s in
        let x = out_of_memory_transition e m (machine_after_failed_open m.machine (base_key t k) v) in
        let y = transition_of_request t e m now (subscribe k v) in
        let due : transition_with_allocation failed_after_open t e m now (subscribe k v) ≡ x = ap (λ b. cond b x y) h in (
          failed_after_open,
          subst (λ (z : Transition). IsTransition z says new q) (sym due)
              (said, same_state (machine_after_failed_open (machine p) (base_key t k) v) (machine q) s new same is),
        )

    -- the allocations succeeded: the reply is the machine's
    replies : (r : PlainRequest) (reply : RequestResult r) → reply ≡ (machine_reply t (state_at p s) now r).0
        → machine q ≡ (machine_reply t (state_at p s) now r).1 → new ≡ (response_of e t s r reply).session
        → says (response_of e t s r reply).answers → Finds t e now r s p says new q
    replies r reply due after is said =
        let m = state_at p s in (
          ok,
          (
            subst (λ (x : RequestResult r). says (response_of e t s r x).answers) due said,
            same_state (machine_reply t m now r).1 (machine q) (response_of e t s r (machine_reply t m now r).0).session new after
                (is ∙ ap (λ (x : RequestResult r). (response_of e t s r x).session) due),
          ),
        )

    same_at : (machine q).logs ≡ (machine p).logs → (machine q).queues ≡ (machine p).queues → machine q ≡ machine p
    same_at l k = same_machine (machine p) (machine q) l k

    pass_same : q ≡ p → machine q ≡ machine p
    pass_same h = ap machine h

    listed_output : (k : PlainKey) (v : ℕ) (r : Result (List PlainEntry) Code)
        → ReadOrOutOfMemory is_nonempty r (operations_from ((machine p).logs (base_key t k)) v) × IsUnchanged (machine p) (machine q) → new ≡ s
        → says (list_answers e (projection_of_key t k) k r) → Finds t e now (fetch k (Some v)) s p says new q
    listed_output k v r (inl h, (l, z)) is said =
        wants (fetch k (Some v)) h.1 (same_at l z) is
        (subst (λ (x : Result (List PlainEntry) Code). says (list_answers e (projection_of_key t k) k x)) h.0 said)
    listed_output k v r (inr h, (l, z)) is said = replies (fetch k (Some v)) r h (same_at l z) is said

    fetch_output : (k : PlainKey) (v : Option ℕ) (r : ReadResult v) → FetchCalls (MachineActs (base_key t k)) v p r q → new ≡ s
        → says (read_answers e (projection_of_key t k) k v r) → Finds t e now (fetch k v) s p says new q
    fetch_output k None r (inl h, (l, z)) is said =
        wants (fetch k None) h.1 (same_at l z) is
        (subst (λ (x : Result PlainFetchResult Code). says (fetch_answers e (projection_of_key t k) k x)) h.0 said)
    fetch_output k None r (inr h, (l, z)) is said = replies (fetch k None) r h (same_at l z) is said
    fetch_output k (Some v) r h is said = listed_output k v r (lists_all_is_operations machine pass_zero (base_key t k) v p q r h) is said

    snapshot_output : (k : PlainKey) (v : Option ℕ) (n : ℕ) (r : Result PlainFetchResult Code)
        → MachineStep pass_zero (machine p) (base_key t k) (snapshot_call v) r (machine q) → new ≡ s
        → says (snapshot_answers e (projection_of_key t k) n r)
        → Finds t e now (snapshot k v n) s p says new q
    snapshot_output k v n r (inl h, (l, z)) is said =
        wants (snapshot k v n) h.1 (same_at l z) is
        (subst (λ (x : Result PlainFetchResult Code). says (snapshot_answers e (projection_of_key t k) n x)) h.0 said)
    snapshot_output k v n r (inr h, (l, z)) is said = replies (snapshot k v n) r h (same_at l z) is said

    at_time_output : (k : PlainKey) (m : Option ℕ) (n : ℕ) (r : Result PlainFetchResult Code)
        → MachineStep pass_zero (machine p) (base_key t k) (at_time_call m) r (machine q) → new ≡ s
        → says (moment_answers e (projection_of_key t k) n r)
        → Finds t e now (snapshot_at_time k m n) s p says new q
    at_time_output k m n r (inl h, (l, z)) is said =
        wants (snapshot_at_time k m n) h.1 (same_at l z) is
        (subst (λ (x : Result PlainFetchResult Code). says (moment_answers e (projection_of_key t k) n x)) h.0 said)
    at_time_output k m n r (inr h, (l, z)) is said = replies (snapshot_at_time k m n) r h (same_at l z) is said

    -- ---- submissions

    abbrev Decided : Bool → PlainKey → PlainSubmission → PlainReply → Type 0
    Decided b k u r =
        ((r ≡ refused E10) × (machine q ≡ machine p) × ((b && decide_allocates ((machine p).logs k) u) ≡ true))
        ⊎ ((r ≡ (decide_result b (machine p) k u now).0) × (machine q ≡ (decide_result b (machine p) k u now).1))

    in_one_step : (k : PlainKey) (u : PlainSubmission) (r : PlainReply)
        → DecidesOrOutOfMemory (machine p).logs k u now r (machine q).logs × ((machine q).queues ≡ (machine p).queues)
        → Decided true k u r
    in_one_step k u r (inl h, z) = inl (h.0, same_machine (machine p) (machine q) h.1 z, h.2)
    in_one_step k u r (inr h, z) = inr (h.0, same_machine (decide_result true (machine p) k u now).1 (machine q) h.1 z)

    decides : (b : Bool) (k : PlainKey) (u : PlainSubmission) (r : PlainReply) → SubmitCalls (MachineActs k) b u now p r q
        → Decided b k u r
    decides true k u r h = in_one_step k u r (submit_is_atomic machine pass_zero k u now p q r h)
    decides false k u r h = inr (h.0, pass_same h.1)

    abbrev sent : PlainKey → Option ℕ → ℕ → Option (List ℕ) → PlainContent → PlainSubmission
    sent k v n src c = submission_of s k v n src c 0

    submit_by : (k : PlainKey) (v : Option ℕ) (n : ℕ) (src : Option (List ℕ)) (c : PlainContent) (r : PlainReply)
        → Decided (is_permitted (projection_of_key t k) c) (base_key t k) (sent k v n src c) r → new ≡ s
        → says (submit_answers e (projection_of_key t k) k (unwrap_or src s.source) n r)
        → Finds t e now (submit k v n src c) s p says new q
    submit_by k v n src c r (inl h) is said =
        wants (submit k v n src c) h.2 h.1 is
        (subst (λ x. says (submit_answers e (projection_of_key t k) k (unwrap_or src s.source) n x)) h.0 said)
    submit_by k v n src c r (inr h) is said = replies (submit k v n src c) r h.0 h.1 is said

    submit_output : (k : PlainKey) (v : Option ℕ) (n : ℕ) (src : Option (List ℕ)) (c : PlainContent) (r : PlainReply)
        → SubmitCalls (MachineActs (base_key t k)) (is_permitted (projection_of_key t k) c) (sent k v n src c) now p r q → new ≡ s
        → says (submit_answers e (projection_of_key t k) k (unwrap_or src s.source) n r)
        → Finds t e now (submit k v n src c) s p says new q
    submit_output k v n src c r h is said =
        submit_by k v n src c r (decides (is_permitted (projection_of_key t k) c) (base_key t k) (sent k v n src c) r h) is said

    -- ---- closed queues

    unsubscribe_output : (k : PlainKey) (r : Unit {0}) → machine q ≡ machine_after_close (queue_of k s.subs) (machine p)
        → new ≡ (response_of e t s (unsubscribe k) r).session → says (response_of e t s (unsubscribe k) r).answers
        → Finds t e now (unsubscribe k) s p says new q
    unsubscribe_output k r after is said = replies (unsubscribe k) r refl after is said

    -- ---- opened queues

    abbrev Due : Bool → PlainKey → Option ℕ → Result PlainSubscribeReply Code → Type 0
    Due b k v r =
        (r ≡ (subscribe_or_refuse b (machine p) (base_key t k) v (queue_of k s.subs)).0)
        × (machine q ≡ (subscribe_or_refuse b (machine p) (base_key t k) v (queue_of k s.subs)).1)

    -- whether a queue is opened, for a full session or not
    abbrev opens_if : Bool → PlainKey → Option ℕ → Bool
    opens_if b k v = not b && is_ok (subscribe_step_at (machine p) (base_key t k) v).answer

    -- the reply is the machine's, or an allocation failed before or after the queue was opened
    abbrev Joined : Bool → PlainKey → Option ℕ → Result PlainSubscribeReply Code → Type 0
    Joined b k v r =
        Due b k v r
        ⊎ (((r ≡ Err E10) × (machine q ≡ machine p) × (opens_if b k v ≡ true))
        ⊎ ((r ≡ Err E10) × (machine q ≡ machine_after_failed_open (machine p) (base_key t k) v) × (opens_if b k v ≡ true)))

    joined_output : (b : Bool) (k : PlainKey) (v : Option ℕ) (r : Result PlainSubscribeReply Code) → is_subscription_full k s.subs ≡ b
        → Joined b k v r → new ≡ (subscribe_response e t s k v r).session → says (subscribe_response e t s k v r).answers
        → Finds t e now (subscribe k v) s p says new q
    joined_output b k v r full (inl h) is said =
        let D : Bool → Type 0 = λ x. Due x k v r in
        let d = subst D (sym full) h in
        replies (subscribe k v) r d.0 d.1 is said
    joined_output b k v r full (inr (inl h)) is said =
        wants (subscribe k v) (subst (λ x. opens_if x k v ≡ true) (sym full) h.2) h.1
        (is ∙ ap (λ (x : Result PlainSubscribeReply Code). (subscribe_response e t s k v x).session) h.0)
        (subst (λ (x : Result PlainSubscribeReply Code). says (subscribe_response e t s k v x).answers) h.0 said)
    joined_output b k v r full (inr (inr h)) is said =
        lates k v (subst (λ x. opens_if x k v ≡ true) (sym full) h.2) h.1
        (is ∙ ap (λ (x : Result PlainSubscribeReply Code). (subscribe_response e t s k v x).session) h.0)
        (subst (λ (x : Result PlainSubscribeReply Code). says (subscribe_response e t s k v x).answers) h.0 said)

    closes : (old : Option QueueId) (m : P) → CloseCalls MachineActs old m q → machine q ≡ machine_after_close old (machine m)
    closes None m h = ap machine h
    closes (Some x) m h = closes_one (machine m) (machine q) x h

    refuses : (k : PlainKey) (v : Option ℕ) (r : Result PlainSubscribeReply Code) → RefuseCalls (MachineActs (base_key t k)) v p r q
        → Joined true k v r
    refuses k None r h = inl (h.0 ∙ ap Err (sym (present_code ((machine p).logs (base_key t k)))), pass_same h.1)
    refuses k (Some v) r x =
        let log = (machine p).logs (base_key t k) in
        let (h, (l, z)) = x.reads in
        inl (x.is_refused ∙ ap (λ n. Err (limit_code v n)) h ∙ ap Err (sym (code_if (nat_lt (length log) v) v)), same_at l z)

    joined_by : (b : PlainKey) (v : Option ℕ) (old : Option QueueId) (x y : Result PlainSubscribeResult Code)
        (r : Result PlainSubscribeReply Code) → x ≡ y → r ≡ (subscribe_result (machine p) b v old y).0
        → machine q ≡ (subscribe_result (machine p) b v old y).1
        → (r ≡ (subscribe_result (machine p) b v old x).0) × (machine q ≡ (subscribe_result (machine p) b v old x).1)
    joined_by b v old x y r e h k = (
      h ∙ ap (λ z. (subscribe_result (machine p) b v old z).0) (sym e),
      k
          ∙ ap (λ z. (subscribe_result (machine p) b v old z).1) (sym e),
    )

    refused_by : (k : PlainKey) (v : Option ℕ) (code : Code)
        → ((((code ≡ E10) × (is_ok (subscribe_step_at (machine p) (base_key t k) v).answer ≡ true))
        ⊎ ((subscribe_step_at (machine p) (base_key t k) v).answer ≡ Err code)) × (machine q ≡ machine p))
        → Joined false k v (Err code)
    refused_by k v code (inl h, same) = inr (inl (ap Err h.0, same, h.1))
    refused_by k v code (inr h, same) =
        inl (joined_by (base_key t k) v (queue_of k s.subs) (subscribe_step_at (machine p) (base_key t k) v).answer (Err code)
        (Err code) h refl same)

    -- an allocation failure for a new queue's first entries changes nothing
    began : (k : PlainKey) (v : Option ℕ) (o : PlainSubscribeResult) (m n : P)
        → FailsToTake MachineActs (base_key t k) o m n → machine n ≡ machine m
    began k v o m n (max, takes) = takes_none (machine m) (machine n) (base_key t k) o.id max takes

    joins : (k : PlainKey) (v : Option ℕ) (r : Result PlainSubscribeReply Code)
        → OpenAndTakeCalls MachineActs (base_key t k) v (queue_of k s.subs) p r q → Joined false k v r
    joins k v (Ok j) h =
        let b = base_key t k in
        let old = queue_of k s.subs in
        let m = h.after_open in
        let o = opens_ok (machine p) (machine m) b v j.opened h.opens in
        let x : QueueId = record { base = b; id = j.opened.id } in
        let max = first_batch_len v j.opened.version in
        let total = h.takes.all in
        let y = batches_taken x h.takes.batches m h.after_takes h.takes.takes in
        let first : j.first ≡ next_entries (machine_after_open (machine p) b v) x max =
        h.takes.entries_are ∙ y.0 ∙ ap (next_entries (machine m) x) total ∙ ap (λ (z : Machine). next_entries z x max) o.1 in
        let after : machine q ≡ machine_after_close old (machine_after_take (machine_after_open (machine p) b v) x max) =
        closes old h.after_takes h.closes
        ∙ ap (machine_after_close old)
        (y.1 ∙ ap (machine_after_take (machine m) x) total ∙ ap (λ (z : Machine). machine_after_take z x max) o.1) in
        let reply : Ok j ≡ (subscribe_result (machine p) b v old (Ok j.opened)).0 =
        ap (λ es. Ok (record { opened = j.opened; first = es })) first in
        inl (joined_by b v old (subscribe_step_at (machine p) b v).answer (Ok j.opened) (Ok j) o.0 reply after)
    joins k v (Err code) (inl h) = refused_by k v code (opens_err (machine p) (machine q) (base_key t k) v code h)
    joins k v (Err code) (inr h) =
        let b = base_key t k in
        let o = h.opened in
        let x = opens_ok (machine p) (machine h.after_open) b v o h.opens in
        let y = began k v o h.after_open h.after_failure h.fails_after in
        let id = next_number ((machine p).logs b) v ((machine p).queues b) o x.0 in
        let after : machine q
        ≡ machine_after_close (Some (record { base = b; id = o.id })) (machine_after_open (machine p) b v) =
        closes_one (machine h.after_failure) (machine q) (record { base = b; id = o.id }) h.closes
        ∙ ap (machine_after_close (Some (record { base = b; id = o.id }))) (y ∙ x.1) in
        inr (inr (
          ap Err h.is_memory,
          after
              ∙ ap (λ (i : ℕ). machine_after_close (Some (record { base = b; id = i }))
              (machine_after_open (machine p) b v)) id,
          ap is_ok x.0,
        ))

    subscribes : (b : Bool) (k : PlainKey) (v : Option ℕ) (r : Result PlainSubscribeReply Code)
        → SubscribeCalls MachineActs b (base_key t k) v (queue_of k s.subs) p r q → Joined b k v r
    subscribes true k v r h = refuses k v r h
    subscribes false k v r h = joins k v r h

    -- ---- all messages

    request_output : (r : PlainRequest) (reply : RequestResult r) → RequestCalls MachineActs (table_policy t) 0 now s r p reply q
        → new ≡ (response_of e t s r reply).session → says (response_of e t s r reply).answers → Finds t e now r s p says new q
    request_output (hello n) r h is said = replies (hello n) r refl (pass_same h) is said
    request_output (fetch k v) r h is said = fetch_output k v r h is said
    request_output (submit k v n src c) r h is said = submit_output k v n src c r h is said
    request_output (snapshot k v n) r h is said = snapshot_output k v n r h is said
    request_output (snapshot_at_time k m n) r h is said = at_time_output k m n r h is said
    request_output (subscribe k v) r h is said =
        joined_output (is_subscription_full k s.subs) k v r refl (subscribes (is_subscription_full k s.subs) k v r h) is said
    request_output (unsubscribe k) r h is said = unsubscribe_output k r (closes (queue_of k s.subs) p h) is said

    message_output : (r : Result PlainRequest Code) → MessageOutcome MachineActs e r (table_policy t) 0 now s p says new q
        → (w : Allocation) × IsTransition (transition_of_message t (state_at p s) now w e r) says new q
    message_output (Ok r) h = request_output r h.reply h.calls h.session_is h.said
    message_output (Err code) h = (ok, (h.2, same_state (machine p) (machine q) s new (pass_same h.0) h.1))

  -- the answers to one text are the dialogue's
  pub answers_output : (text : List ℕ) (t : List PlainProjection) (now : ℕ) (s : PlainSession) (p : P)
      (says : List PlainAnswer → Type 0) (new : PlainSession) (q : P) → TextOutcome MachineActs text (table_policy t) 0 now s p says new q
      → (w : Allocation) × IsTransition (transition_of_line t (state_at p s) now w (Some text)) says new q
  answers_output text t now s p says new q h =
      message_output t (parse_message text).echo now s p says new q (parse_message text).request h
