-- Several calls of a pass: the entries that they stored are its share's, and their takes return its queues.
use Rattle.std.proofs.Common.{◌≡◌, ◌≢◌, ℕ, ◌+◌, ◌<◌, ◌≤◌, ◌⊎◌, inl, inr, Bool, true, false, cond, List, [], ◌∷◌, ◌++◌, length, map, take, drop, sum, nat_eq, nat_lt, Option, Some, None, IfSome, option_map, Result, Ok, Err, unwrap_or, refl, sym, ap, ◌∙◌, subst, arith, rules, append_assoc, append-nil, length-append, length-drop}
use Rattle.std.proofs.lemmas.Bool.{eqb-true, eq-eqb}
use Rattle.std.proofs.lemmas.Bool.Decides.{eqb_tells, nat_tests}
use Rattle.std.proofs.lemmas.List.{drop-take, length-take, map-append, take-append-le, take_min}
use Rattle.std.proofs.Math.Nat.{mod-lt}
use Rattle.std.proofs.Math.Seq.{take-add}
use Rattle.std.specs.Result.{result_ok}
use Rattle.sdb_oplog.specs.declared.codes.Code.{Code}
use Rattle.sdb_oplog.specs.declared.codes.Code.TheVariants.{E4, E10, E11}
use Rattle.sdb_oplog.specs.Decide.{PlainReply, stored, repeated, refused, decide, new_entry}
use Rattle.sdb_oplog.specs.Keys.{PlainKey, keys_equal, shard_of, with_log}
use Rattle.sdb_oplog.specs.Plain.{PlainEntry, PlainSubmission}
use Rattle.sdb_subscribe.specs.Queue.{PlainQueue, PlainQueues, queue, queue_at, open_queue, pending_entries, advance, take_result, queues_after_take, queues_after_take_by, remove_queue, remove_queue_by, is_queue_of, is_open_by}
use Rattle.sdb_subscribe.specs.laws.QueueLaws.{queue_at_taken, queue_at_taken_other, queue_at_removed_other}
use Rattle.sdb_desk.specs.laws.KeyLaws.{eq_of_keys_equal}
use Rattle.sdb_desk.specs.laws.MapLaws.{value_of_updated}
use Rattle.sdb_desk.specs.Machine.{Machine, PlainAttempt, PlainOutcome, PlainSubscribeResult, decided, moved, with_queues, close_queue, queue_start, subscribe_opened, subscribe_from_start, CommitsOrOutOfMemory, DecidesOrOutOfMemory, SubscribesOrOutOfMemory, TakesOrOutOfMemory}
use Rattle.sdb_desk.specs.ShardView.{machine_of}
use Rattle.sdb_submit.specs.Calls.{PlainCall, look, commit, commit_now, current_version, fetch, ops_from, ops_between, snapshot, snapshot_at_time, forget, subscribe, take_next, unsubscribe, CallAnswer, MachineStep}
use Rattle.sdb_submit.specs.laws.SubmitLaws.{drop_drop}
use Rattle.sdb_growlock.specs.SeatModel.{HasSeen}
use Rattle.sdb_growlock.specs.declared.grow_lock.Seat.{Seat}
use Rattle.sdb_striped_lock.specs.laws.SeatLaws.{have_seen_unique}
use Rattle.sdb_backend.specs.CallAnswers.{AnsweredAtExtension}
use Rattle.sdb_backend.specs.HistoryOrder.{IsExtension, Extends, stored_by, queue_owned_by, share_of, Share}
use Rattle.sdb_backend.specs.HistoryOrderLaws.{is_extension_refl}
use Rattle.sdb_backend.specs.PassModel.{pass_number, PassHasSeen, PassHasSeenShard, HasEmptyShare}
use Rattle.sdb_backend.specs.PassRuns.{IsCallUnder, AnsweredCall, AreAnswered, entry_identity, stored_by_reply, stored_by_outcome, stored_by_call, stored_by_calls, HasStoredCalls, taken_entries_or_none, taken_by_call, taken_by_calls, HasTakenQueue}
use Rattle.sdb_backend.proofs.HistoryGrowth.{IsStoredReply, LogGainsEntry, decide_adds, stored_mine}
use Rattle.sdb_backend.specs.declared.shard_value.Held.{Held}
use Rattle.sdb_backend.specs.declared.pass.Pass.{Pass}

-- ---- the queue of one number, which belongs to the pass or doesn't

abbrev TakenSoFar : List PlainEntry → ℕ → ℕ → Option PlainQueue → List PlainEntry → Type 0
TakenSoFar log next id None ts = (ts ≡ []) ⊎ (id < next)
TakenSoFar log next id (Some w) ts = (ts ≡ queue log w.start w.taken) × (w.start + w.taken ≤ length log) × (id < next)

queue_of_extension : (log more : List PlainEntry) (s t : ℕ) → s + t ≤ length log → queue (log ++ more) s t ≡ queue log s t
queue_of_extension log more s t within = sym (drop-take s t (log ++ more)) ∙ ap (drop s) (take-append-le (s + t) log more within) ∙ drop-take s t log

taken_grown : (log new : List PlainEntry) (next after id : ℕ) (o : Option PlainQueue) (ts : List PlainEntry) → IsExtension new log → next ≤ after → TakenSoFar log next id o ts → TakenSoFar new after id o ts
taken_grown log new next after id None ts e le (inl h) = inl h
taken_grown log new next after id None ts e le (inr h) = inr (omega (arith, le, h))
taken_grown log new next after id (Some w) ts e le h =
    let within = h.1 in
    let below = h.2 in
    let longer : length new ≡ length log + length e.0 = ap length e.1 ∙ length-append log e.0 in (
      h.0 ∙ sym (ap (λ l. queue l w.start w.taken) e.1 ∙ queue_of_extension log e.0 w.start w.taken within),
      omega (arith, within, longer),
      omega (arith, below, le),
    )

-- ---- one key

module _ (n id : ℕ) where
  abbrev KeySoFar : List PlainEntry → PlainQueues → List (ℕ × PlainSubmission) → List PlainEntry → Type 0
  KeySoFar log q ss ts = (map entry_identity (stored_by n log) ≡ ss) × TakenSoFar log q.next id (queue_owned_by n (queue_at id q.queues)) ts

  abbrev MachineSoFar : PlainKey → Machine → List (ℕ × PlainSubmission) → List PlainEntry → Type 0
  MachineSoFar k m ss ts = KeySoFar (m.logs k) (m.queues k) ss ts

  so_far_grown : (k : PlainKey) (m new : Machine) (ss : List (ℕ × PlainSubmission)) (ts : List PlainEntry) → Extends new m → share_of n m ≡ share_of n new → MachineSoFar k m ss ts → MachineSoFar k new ss ts
  so_far_grown k m new ss ts ext same h = (
    ap (λ (s : Share). map entry_identity (s.entries k)) (sym same) ∙ h.0,
    subst (λ (o : Option PlainQueue). TakenSoFar (new.logs k) (new.queues k).next id o ts) (ap (λ (s : Share). s.queues k id) same)
        (taken_grown (m.logs k) (new.logs k) (m.queues k).next (new.queues k).next id (queue_owned_by n (queue_at id (m.queues k).queues)) ts (ext.logs k) (ext.queues k).next_id_not_lower h.1),
  )

  -- nothing was stored or taken
  append_none : {A : Type 0} (xs ys : List A) → ys ≡ [] → xs ≡ xs ++ ys
  append_none xs ys e = sym (append-nil xs) ∙ ap (λ y. xs ++ y) (sym e)

  cond_none : {A : Type 0} (b : Bool) (xs : List A) → xs ≡ [] → cond b xs [] ≡ []
  cond_none true xs e = e
  cond_none false xs e = refl

  with_none : (log : List PlainEntry) (q : PlainQueues) (ss xs : List (ℕ × PlainSubmission)) (ts ys : List PlainEntry) → xs ≡ [] → ys ≡ [] → KeySoFar log q ss ts → KeySoFar log q (ss ++ xs) (ts ++ ys)
  with_none log q ss xs ts ys none nothing h = (
    h.0 ∙ append_none ss xs none,
    subst (λ (l : List PlainEntry). TakenSoFar log q.next id (queue_owned_by n (queue_at id q.queues)) l) (append_none ts ys nothing) h.1,
  )

  unchanged_so_far : (k : PlainKey) (m new : Machine) (ss : List (ℕ × PlainSubmission)) (ts : List PlainEntry) → new.logs ≡ m.logs → new.queues ≡ m.queues → MachineSoFar k m ss ts → MachineSoFar k new ss ts
  unchanged_so_far k m new ss ts logs queues h =
      subst (λ (l : List PlainEntry). KeySoFar l (new.queues k) ss ts) (ap (λ f. f k) (sym logs))
      (subst (λ (q : PlainQueues). KeySoFar (m.logs k) q ss ts) (ap (λ f. f k) (sym queues)) h)

  -- ---- a decision

  nothing_stored : (s : PlainSubmission) (r : PlainReply) → (IsStoredReply r → ⊥) → stored_by_reply s r ≡ []
  nothing_stored s (stored v missed) isnt = absurd (isnt tt)
  nothing_stored s (repeated v) isnt = refl
  nothing_stored s (refused code) isnt = refl

  decided_so_far : (log new : List PlainEntry) (q : PlainQueues) (s : PlainSubmission) (now : ℕ) (r : PlainReply) (ss : List (ℕ × PlainSubmission)) (ts : List PlainEntry) → s.by ≡ n → LogGainsEntry log s now r new → KeySoFar log q ss ts → KeySoFar new q (ss ++ stored_by_reply s r) ts
  decided_so_far log new q s now r ss ts by (inl h) g =
      subst (λ (l : List PlainEntry). KeySoFar l q (ss ++ stored_by_reply s r) ts) (sym h.1) (g.0 ∙ append_none ss (stored_by_reply s r) (nothing_stored s r h.0), g.1)
  decided_so_far log new q s now r ss ts by (inr h) g =
      let e = new_entry log s now h.0 in (
        ap (λ l. map entry_identity (stored_by n l)) h.2 ∙ ap (map entry_identity) (stored_mine n log e by) ∙ map-append entry_identity (stored_by n log) (e ∷ [])
            ∙ ap (λ x. x ++ (length log, s) ∷ []) g.0 ∙ sym (ap (λ x. ss ++ stored_by_reply s x) h.1),
        taken_grown log new q.next q.next id (queue_owned_by n (queue_at id q.queues)) ts (e ∷ [], h.2) (omega arith) g.1,
      )

  decided_if : (b : Bool) (j k : PlainKey) (m : Machine) (s : PlainSubmission) (now : ℕ) (ss : List (ℕ × PlainSubmission)) (ts : List PlainEntry) → keys_equal j k ≡ b → s.by ≡ n → MachineSoFar k m ss ts
      → KeySoFar (cond b (decide (m.logs j) s now).log (m.logs k)) (m.queues k) (ss ++ cond b (stored_by_reply s (decide (m.logs j) s now).reply) []) ts
  decided_if true j k m s now ss ts is by h =
      let e = eq_of_keys_equal j k is in
      let d = decide (m.logs j) s now in
      let here : MachineSoFar j m ss ts = subst (λ (x : PlainKey). MachineSoFar x m ss ts) (sym e) h in
      subst (λ (x : PlainKey). KeySoFar d.log (m.queues x) (ss ++ stored_by_reply s d.reply) ts) e
      (decided_so_far (m.logs j) d.log (m.queues j) s now d.reply ss ts by (decide_adds (m.logs j) s now) here)
  decided_if false j k m s now ss ts is by h = (h.0 ∙ append_none ss [] refl, h.1)

  stored_so_far : (j k : PlainKey) (m new : Machine) (s : PlainSubmission) (now : ℕ) (r : PlainReply) (ss : List (ℕ × PlainSubmission)) (ts : List PlainEntry) → s.by ≡ n → new.queues ≡ m.queues
      → r ≡ (decide (m.logs j) s now).reply → new.logs ≡ with_log m.logs j (decide (m.logs j) s now).log → MachineSoFar k m ss ts → MachineSoFar k new (ss ++ cond (keys_equal j k) (stored_by_reply s r) []) ts
  stored_so_far j k m new s now r ss ts by queues reply logs h =
      let b = keys_equal j k in
      subst (λ (x : PlainReply). KeySoFar (new.logs k) (new.queues k) (ss ++ cond b (stored_by_reply s x) []) ts) (sym reply)
      (subst (λ (l : List PlainEntry). KeySoFar l (new.queues k) (ss ++ cond b (stored_by_reply s (decide (m.logs j) s now).reply) []) ts) (ap (λ f. f k) (sym logs))
      (subst (λ (q : PlainQueues). KeySoFar (cond b (decide (m.logs j) s now).log (m.logs k)) q (ss ++ cond b (stored_by_reply s (decide (m.logs j) s now).reply) []) ts) (ap (λ f. f k) (sym queues))
      (decided_if b j k m s now ss ts refl by h)))

  refused_so_far : (j k : PlainKey) (m new : Machine) (s : PlainSubmission) (r : PlainReply) (ss : List (ℕ × PlainSubmission)) (ts : List PlainEntry) → r ≡ refused E10 → new.logs ≡ m.logs → new.queues ≡ m.queues
      → MachineSoFar k m ss ts → MachineSoFar k new (ss ++ cond (keys_equal j k) (stored_by_reply s r) []) ts
  refused_so_far j k m new s r ss ts is logs queues h =
      let b = keys_equal j k in
      let none : cond b (stored_by_reply s r) [] ≡ [] = cond_none b (stored_by_reply s r) (ap (stored_by_reply s) is) in
      let g = unchanged_so_far k m new ss ts logs queues h in
      (g.0 ∙ append_none ss (cond b (stored_by_reply s r) []) none, g.1)

  decides_so_far : (j k : PlainKey) (m new : Machine) (s : PlainSubmission) (now : ℕ) (r : PlainReply) (ss : List (ℕ × PlainSubmission)) (ts : List PlainEntry) → s.by ≡ n → new.queues ≡ m.queues
      → DecidesOrOutOfMemory m.logs j s now r new.logs → MachineSoFar k m ss ts → MachineSoFar k new (ss ++ cond (keys_equal j k) (stored_by_reply s r) []) ts
  decides_so_far j k m new s now r ss ts by queues (inl d) h = refused_so_far j k m new s r ss ts d.0 d.1 queues h
  decides_so_far j k m new s now r ss ts by queues (inr d) h = stored_so_far j k m new s now r ss ts by queues d.0 d.1 h

  commits_so_far : (j k : PlainKey) (m new : Machine) (a : PlainAttempt) (now : ℕ) (o : PlainOutcome) (ss : List (ℕ × PlainSubmission)) (ts : List PlainEntry) → a.submission.by ≡ n → new.queues ≡ m.queues
      → CommitsOrOutOfMemory m.logs j a now o new.logs → MachineSoFar k m ss ts → MachineSoFar k new (ss ++ cond (keys_equal j k) (stored_by_outcome a.submission o) []) ts
  commits_so_far j k m new a now (decided r) ss ts by queues (inl d) h = refused_so_far j k m new a.submission r ss ts d.0 d.1 queues h
  commits_so_far j k m new a now (decided r) ss ts by queues (inr d) h = stored_so_far j k m new a.submission now r ss ts by queues d.1 d.2 h
  commits_so_far j k m new a now (moved l) ss ts by queues d h =
      let g = unchanged_so_far k m new ss ts d.2 queues h in
      (g.0 ∙ append_none ss (cond (keys_equal j k) [] []) (cond_none (keys_equal j k) [] refl), g.1)

  -- ---- a queue call at one key

  queues_if : (b : Bool) (j k : PlainKey) (m : Machine) (w : PlainQueues) (ss : List (ℕ × PlainSubmission)) (ts ys : List PlainEntry) → keys_equal j k ≡ b
      → (KeySoFar (m.logs j) (m.queues j) ss ts → KeySoFar (m.logs j) w ss (ts ++ ys)) → MachineSoFar k m ss ts → KeySoFar (m.logs k) (cond b w (m.queues k)) ss (ts ++ cond b ys [])
  queues_if true j k m w ss ts ys is moves h =
      let e = eq_of_keys_equal j k is in
      subst (λ (x : PlainKey). KeySoFar (m.logs x) w ss (ts ++ ys)) e (moves (subst (λ (x : PlainKey). MachineSoFar x m ss ts) (sym e) h))
  queues_if false j k m w ss ts ys is moves h =
      (h.0, subst (λ (l : List PlainEntry). TakenSoFar (m.logs k) (m.queues k).next id (queue_owned_by n (queue_at id (m.queues k).queues)) l) (append_none ts [] refl) h.1)

  queue_call_so_far : (j k : PlainKey) (m new : Machine) (w : PlainQueues) (ss : List (ℕ × PlainSubmission)) (ts ys : List PlainEntry) → new.queues ≡ with_queues m.queues j w → new.logs ≡ m.logs
      → (KeySoFar (m.logs j) (m.queues j) ss ts → KeySoFar (m.logs j) w ss (ts ++ ys)) → MachineSoFar k m ss ts → MachineSoFar k new ss (ts ++ cond (keys_equal j k) ys [])
  queue_call_so_far j k m new w ss ts ys queues logs moves h =
      let b = keys_equal j k in
      subst (λ (l : List PlainEntry). KeySoFar l (new.queues k) ss (ts ++ cond b ys [])) (ap (λ f. f k) (sym logs))
      (subst (λ (q : PlainQueues). KeySoFar (m.logs k) q ss (ts ++ cond b ys [])) (ap (λ f. f k) (sym queues)) (queues_if b j k m w ss ts ys refl moves h))

  -- the queues are unchanged, and nothing was taken
  same_queues : (log : List PlainEntry) (q w : PlainQueues) (ss : List (ℕ × PlainSubmission)) (ts : List PlainEntry) → w ≡ q → KeySoFar log q ss ts → KeySoFar log w ss (ts ++ [])
  same_queues log q w ss ts is h =
      subst (λ (x : PlainQueues). KeySoFar log x ss (ts ++ [])) (sym is)
      (h.0, subst (λ (l : List PlainEntry). TakenSoFar log q.next id (queue_owned_by n (queue_at id q.queues)) l) (append_none ts [] refl) h.1)

  -- ---- a queue that is opened

  abbrev first_of : Option PlainQueue → Option PlainQueue → Option PlainQueue
  first_of None p = p
  first_of (Some u) p = Some u

  first_if : (b : Bool) (u : PlainQueue) (o p : Option PlainQueue) → cond b (Some u) (first_of o p) ≡ first_of (cond b (Some u) o) p
  first_if true u o p = refl
  first_if false u o p = refl

  queue_at_appended : (next : ℕ) (w : PlainQueue) (qs : List (ℕ × PlainQueue)) → queue_at id (qs ++ (next, w) ∷ []) ≡ first_of (queue_at id qs) (cond (nat_eq id next) (Some w) None)
  queue_at_appended next w [] = refl
  queue_at_appended next w (q ∷ qs) =
      ap (λ o. cond (nat_eq id q.0) (Some q.1) o) (queue_at_appended next w qs) ∙ first_if (nat_eq id q.0) q.1 (queue_at id qs) (cond (nat_eq id next) (Some w) None)

  take_none : (l : List PlainEntry) → take 0 l ≡ []
  take_none [] = refl
  take_none (e ∷ l) = refl

  opened_or_older : (log : List PlainEntry) (from next : ℕ) (w : PlainQueue) (ts : List PlainEntry) → from ≤ length log → id ≡ next → w.start ≡ from → w.taken ≡ 0 → (ts ≡ []) ⊎ (id < next) → TakenSoFar log (next + 1) id (Some w) ts
  opened_or_older log from next w ts within at start none (inl h) = (
    h ∙ sym (ap (λ t. queue log w.start t) none ∙ take_none (drop w.start log)),
    omega (arith, within, start, none),
    omega (arith, at),
  )
  opened_or_older log from next w ts within at start none (inr h) = absurd (omega (arith, h, at))

  opened_if : (b : Bool) (o : Option PlainQueue) (log : List PlainEntry) (from next : ℕ) (ts : List PlainEntry) → from ≤ length log → nat_eq id next ≡ b → TakenSoFar log next id (queue_owned_by n o) ts
      → TakenSoFar log (next + 1) id (queue_owned_by n (first_of o (cond b (Some (record { start = from; taken = 0; by = n })) None))) ts
  opened_if b (Some u) log from next ts within is h = taken_grown log log next (next + 1) id (queue_owned_by n (Some u)) ts (is_extension_refl log) (omega arith) h
  opened_if false None log from next ts within is h = taken_grown log log next (next + 1) id None ts (is_extension_refl log) (omega arith) h
  opened_if true None log from next ts within is h =
      let w : PlainQueue = record { start = from; taken = 0; by = n } in
      let own : nat_eq n n ≡ true = eq-eqb n n refl in
      subst (λ (o : Option PlainQueue). TakenSoFar log (next + 1) id o ts) (sym (ap (λ (b : Bool). cond b (Some w) None) own)) (opened_or_older log from next w ts within (eqb-true id next is) refl refl h)

  opened_so_far : (log : List PlainEntry) (q : PlainQueues) (from : ℕ) (ss : List (ℕ × PlainSubmission)) (ts : List PlainEntry) → from ≤ length log → KeySoFar log q ss ts
      → KeySoFar log (record { next = q.next + 1; queues = q.queues ++ (q.next, record { start = from; taken = 0; by = n }) ∷ [] }) ss ts
  opened_so_far log q from ss ts within h = (
    h.0,
    subst (λ (o : Option PlainQueue). TakenSoFar log (q.next + 1) id (queue_owned_by n o) ts) (sym (queue_at_appended q.next (record { start = from; taken = 0; by = n }) q.queues))
        (opened_if (nat_eq id q.next) (queue_at id q.queues) log from q.next ts within refl h.1),
  )

  opening_if : (b : Bool) (log : List PlainEntry) (q new : PlainQueues) (from : ℕ) (ss : List (ℕ × PlainSubmission)) (ts : List PlainEntry) → from ≤ length log
      → cond b (Err E11) (Ok (record { next = q.next + 1; queues = q.queues ++ (q.next, record { start = from; taken = 0; by = n }) ∷ [] })) ≡ Ok new → KeySoFar log q ss ts → KeySoFar log new ss ts
  opening_if true log q new from ss ts within e h = cc
  opening_if false log q new from ss ts within e h =
      subst (λ (x : PlainQueues). KeySoFar log x ss ts) (ap (λ (r : Result PlainQueues Code). unwrap_or (result_ok r) q) e) (opened_so_far log q from ss ts within h)

  opening_so_far : (log : List PlainEntry) (q : PlainQueues) (from : ℕ) (r : Result PlainQueues Code) (ss : List (ℕ × PlainSubmission)) (ts : List PlainEntry) → from ≤ length log → open_queue n from q ≡ r → KeySoFar log q ss ts → KeySoFar log (subscribe_opened log from q r).queues ss ts
  opening_so_far log q from (Err code) ss ts within e h = h
  opening_so_far log q from (Ok new) ss ts within e h = opening_if (nat_eq q.next 18446744073709551615) log q new from ss ts within e h

  start_if : (b : Bool) (last from v : ℕ) → (b ≡ false → v ≤ last) → cond {A = Result ℕ Code} b (Err E4) (Ok v) ≡ Ok from → from ≤ last
  start_if true last from v within e = cc
  start_if false last from v within e = let is : v ≡ from = cc in let h = within refl in omega (arith, h, is)

  starting_so_far : (log : List PlainEntry) (v : Option ℕ) (q : PlainQueues) (r : Result ℕ Code) (ss : List (ℕ × PlainSubmission)) (ts : List PlainEntry) → queue_start log v ≡ r → KeySoFar log q ss ts → KeySoFar log (subscribe_from_start log n q r).queues ss ts
  starting_so_far log v q (Err code) ss ts e h = h
  starting_so_far log v q (Ok from) ss ts e h =
      let start = unwrap_or v (length log) in
      opening_so_far log q from (open_queue n from q) ss ts (start_if (nat_lt (length log) start) (length log) from start (λ is. grind (arith, nat_tests)) e) refl h

  subscribes_so_far : (log : List PlainEntry) (v : Option ℕ) (q w : PlainQueues) (r : Result PlainSubscribeResult Code) (ss : List (ℕ × PlainSubmission)) (ts : List PlainEntry) → SubscribesOrOutOfMemory log n v q r w → KeySoFar log q ss ts → KeySoFar log w ss (ts ++ [])
  subscribes_so_far log v q w r ss ts (inl d) h = same_queues log q w ss ts d.1 h
  subscribes_so_far log v q w r ss ts (inr d) h =
      same_queues log (subscribe_from_start log n q (queue_start log v)).queues w ss ts d.1 (starting_so_far log v q (queue_start log v) ss ts refl h)

  -- ---- a take

  -- another queue, or a queue of another number
  unmoved_so_far : (log : List PlainEntry) (q : PlainQueues) (qs : List (ℕ × PlainQueue)) (ss : List (ℕ × PlainSubmission)) (ts ys : List PlainEntry) → queue_at id qs ≡ queue_at id q.queues → ys ≡ [] → KeySoFar log q ss ts
      → KeySoFar log (record { next = q.next; queues = qs }) ss (ts ++ ys)
  unmoved_so_far log q qs ss ts ys at none h = (
    h.0,
    subst (λ (l : List PlainEntry). TakenSoFar log q.next id (queue_owned_by n (queue_at id qs)) l) (append_none ts ys none)
        (subst (λ (o : Option PlainQueue). TakenSoFar log q.next id (queue_owned_by n o) ts) (sym at) h.1),
  )

  joined_takes : (log : List PlainEntry) (s t max : ℕ) → queue log s t ++ queue log (s + t) max ≡ queue log s (t + length (queue log (s + t) max))
  joined_takes log s t max =
      let rest = drop t (drop s log) in
      let next : queue log (s + t) max ≡ take max rest = ap (take max) (drop_drop s t log) in
      let again : take (length (take max rest)) rest ≡ take max rest = ap (λ i. take i rest) (length-take max rest) ∙ take_min max rest in
      ap (λ l. queue log s t ++ l) (next ∙ sym again) ∙ sym (take-add t (length (take max rest)) (drop s log)) ∙ ap (λ l. queue log s (t + length l)) (sym next)

  short_take : (log : List PlainEntry) (s t max : ℕ) → s + t ≤ length log → s + (t + length (queue log (s + t) max)) ≤ length log
  short_take log s t max within =
      let cut = length-take max (drop (s + t) log) in
      let rest = length-drop (s + t) log in
      grind (arith, nat_tests)

  owned_queue : (o : Option PlainQueue) → is_queue_of n o ≡ true → (w : PlainQueue) × ((o ≡ Some w) × (queue_owned_by n (Some w) ≡ Some w) × (w.by ≡ n))
  owned_queue None e = cc
  owned_queue (Some w) e = (w, (refl, ap (λ (b : Bool). cond b (Some w) None) e, eqb-true w.by n e))

  advanced_owned : (log : List PlainEntry) (max : ℕ) (w : PlainQueue) → w.by ≡ n → queue_owned_by n (Some (advance log max w)) ≡ Some (advance log max w)
  advanced_owned log max w by = ap (λ (b : Bool). cond b (Some (advance log max w)) None) (eq-eqb w.by n by)

  taken_own : (log : List PlainEntry) (q : PlainQueues) (max : ℕ) (ss : List (ℕ × PlainSubmission)) (ts : List PlainEntry) → is_open_by n id q.queues ≡ true → KeySoFar log q ss ts
      → KeySoFar log (record { next = q.next; queues = queues_after_take log id max q.queues }) ss (ts ++ taken_entries_or_none (Some (take_result log id max q.queues)))
  taken_own log q max ss ts own h =
      let o = owned_queue (queue_at id q.queues) own in
      let w = o.0 in
      let before : TakenSoFar log q.next id (Some w) ts = subst (λ (x : Option PlainQueue). TakenSoFar log q.next id x ts) (ap (queue_owned_by n) o.1.0 ∙ o.1.1) h.1 in
      let at : queue_at id (queues_after_take log id max q.queues) ≡ Some (advance log max w) = queue_at_taken log id max w q.queues o.1.0 in
      let got : taken_entries_or_none (Some (take_result log id max q.queues)) ≡ pending_entries log max w =
      ap (λ (x : Option PlainQueue). taken_entries_or_none (Some (option_map (pending_entries log max) x))) o.1.0 in
      let after : TakenSoFar log q.next id (Some (advance log max w)) (ts ++ pending_entries log max w) = (
        ap (λ l. l ++ pending_entries log max w) before.0 ∙ joined_takes log w.start w.taken max,
        short_take log w.start w.taken max before.1,
        before.2,
      ) in (
        h.0,
        subst (λ (l : List PlainEntry). TakenSoFar log q.next id (queue_owned_by n (queue_at id (queues_after_take log id max q.queues))) (ts ++ l)) (sym got)
            (subst (λ (x : Option PlainQueue). TakenSoFar log q.next id x (ts ++ pending_entries log max w)) (sym (ap (queue_owned_by n) at ∙ advanced_owned log max w o.1.2)) after),
      )

  taken_own_if : (b : Bool) (log : List PlainEntry) (q : PlainQueues) (max : ℕ) (ss : List (ℕ × PlainSubmission)) (ts : List PlainEntry) → is_open_by n id q.queues ≡ b → KeySoFar log q ss ts
      → KeySoFar log (record { next = q.next; queues = cond b (queues_after_take log id max q.queues) q.queues }) ss (ts ++ taken_entries_or_none (Some (cond b (take_result log id max q.queues) None)))
  taken_own_if true log q max ss ts own h = taken_own log q max ss ts own h
  taken_own_if false log q max ss ts own h = unmoved_so_far log q q.queues ss ts [] refl refl h

  after_other : (b : Bool) (log : List PlainEntry) (i max : ℕ) (qs : List (ℕ × PlainQueue)) → (id ≡ i → ⊥) → queue_at id (cond b (queues_after_take log i max qs) qs) ≡ queue_at id qs
  after_other true log i max qs ne = queue_at_taken_other log id i max qs ne
  after_other false log i max qs ne = refl

  -- the take's queue number is this one, or another
  taken_if : (log : List PlainEntry) (i max : ℕ) (q : PlainQueues) (ss : List (ℕ × PlainSubmission)) (ts : List PlainEntry) → ((nat_eq i id ≡ true) × (i ≡ id)) ⊎ ((nat_eq i id ≡ false) × (i ≡ id → ⊥)) → KeySoFar log q ss ts
      → KeySoFar log (record { next = q.next; queues = queues_after_take_by log n i max q.queues }) ss
      (ts ++ cond (nat_eq i id) (taken_entries_or_none (Some (cond (is_open_by n i q.queues) (take_result log i max q.queues) None))) [])
  taken_if log i max q ss ts (inl t) h =
      let whole : KeySoFar log (record { next = q.next; queues = queues_after_take_by log n id max q.queues }) ss (ts ++ taken_entries_or_none (Some (cond (is_open_by n id q.queues) (take_result log id max q.queues) None))) =
      taken_own_if (is_open_by n id q.queues) log q max ss ts refl h in
      let here : KeySoFar log (record { next = q.next; queues = queues_after_take_by log n i max q.queues }) ss (ts ++ taken_entries_or_none (Some (cond (is_open_by n i q.queues) (take_result log i max q.queues) None))) =
      subst (λ (x : ℕ). KeySoFar log (record { next = q.next; queues = queues_after_take_by log n x max q.queues }) ss (ts ++ taken_entries_or_none (Some (cond (is_open_by n x q.queues) (take_result log x max q.queues) None)))) (sym t.1) whole in
      subst (λ (b : Bool). KeySoFar log (record { next = q.next; queues = queues_after_take_by log n i max q.queues }) ss (ts ++ cond b (taken_entries_or_none (Some (cond (is_open_by n i q.queues) (take_result log i max q.queues) None))) [])) (sym t.0) here
  taken_if log i max q ss ts (inr f) h =
      unmoved_so_far log q (queues_after_take_by log n i max q.queues) ss ts _ (after_other (is_open_by n i q.queues) log i max q.queues (λ e. f.1 (sym e)))
      (ap (λ (b : Bool). cond b (taken_entries_or_none (Some (cond (is_open_by n i q.queues) (take_result log i max q.queues) None))) []) f.0) h

  takes_so_far : (log : List PlainEntry) (i max : ℕ) (q w : PlainQueues) (a : Option (Option (List PlainEntry))) (ss : List (ℕ × PlainSubmission)) (ts : List PlainEntry) → TakesOrOutOfMemory log n i max q a w → KeySoFar log q ss ts
      → KeySoFar log w ss (ts ++ cond (nat_eq i id) (taken_entries_or_none a) [])
  takes_so_far log i max q w None ss ts d h =
      subst (λ (l : List PlainEntry). KeySoFar log w ss (ts ++ l)) (sym (cond_none (nat_eq i id) [] refl)) (same_queues log q w ss ts d.0 h)
  takes_so_far log i max q w (Some r) ss ts d h =
      subst (λ (x : PlainQueues). KeySoFar log x ss (ts ++ cond (nat_eq i id) (taken_entries_or_none (Some r)) [])) (sym d.1)
      (subst (λ (x : Option (List PlainEntry)). KeySoFar log (record { next = q.next; queues = queues_after_take_by log n i max q.queues }) ss (ts ++ cond (nat_eq i id) (taken_entries_or_none (Some x)) [])) (sym d.0)
      (taken_if log i max q ss ts (eqb_tells i id) h))

  -- ---- a queue that is closed

  closed_none : (o : Option PlainQueue) (log : List PlainEntry) (next : ℕ) (ts : List PlainEntry) → TakenSoFar log next id o ts → TakenSoFar log next id None ts
  closed_none None log next ts h = h
  closed_none (Some w) log next ts h = inr h.2

  closed_other : (b : Bool) (i : ℕ) (qs : List (ℕ × PlainQueue)) → (id ≡ i → ⊥) → queue_at id (cond b (remove_queue i qs) qs) ≡ queue_at id qs
  closed_other true i qs ne = queue_at_removed_other id i qs ne
  closed_other false i qs ne = refl

  closed_own : (b : Bool) (log : List PlainEntry) (q : PlainQueues) (ss : List (ℕ × PlainSubmission)) (ts : List PlainEntry) → is_open_by n id q.queues ≡ b
      → (is_open_by n id q.queues ≡ true → queue_at id (cond b (remove_queue id q.queues) q.queues) ≡ None) → KeySoFar log q ss ts → KeySoFar log (record { next = q.next; queues = cond b (remove_queue id q.queues) q.queues }) ss (ts ++ [])
  closed_own true log q ss ts own gone h = (
    h.0,
    subst (λ (o : Option PlainQueue). TakenSoFar log q.next id (queue_owned_by n o) (ts ++ [])) (sym (gone own))
        (subst (λ (l : List PlainEntry). TakenSoFar log q.next id None l) (append_none ts [] refl) (closed_none (queue_owned_by n (queue_at id q.queues)) log q.next ts h.1)),
  )
  closed_own false log q ss ts own gone h = unmoved_so_far log q q.queues ss ts [] refl refl h

  closes_so_far : (log : List PlainEntry) (i : ℕ) (q : PlainQueues) (ss : List (ℕ × PlainSubmission)) (ts : List PlainEntry) → ((nat_eq i id ≡ true) × (i ≡ id)) ⊎ ((nat_eq i id ≡ false) × (i ≡ id → ⊥))
      → (is_open_by n i q.queues ≡ true → queue_at i (close_queue n i q).queues ≡ None) → KeySoFar log q ss ts → KeySoFar log (close_queue n i q) ss (ts ++ [])
  closes_so_far log i q ss ts (inl t) gone h =
      subst (λ (x : ℕ). KeySoFar log (close_queue n x q) ss (ts ++ [])) (sym t.1)
      (closed_own (is_open_by n id q.queues) log q ss ts refl (subst (λ (x : ℕ). is_open_by n x q.queues ≡ true → queue_at x (close_queue n x q).queues ≡ None) t.1 gone) h)
  closes_so_far log i q ss ts (inr f) gone h =
      unmoved_so_far log q (remove_queue_by n i q.queues) ss ts [] (closed_other (is_open_by n i q.queues) i q.queues (λ e. f.1 (sym e))) refl h

  -- ---- every call

  same_so_far : (j k : PlainKey) (m new : Machine) (ss : List (ℕ × PlainSubmission)) (ts : List PlainEntry) → new.logs ≡ m.logs → new.queues ≡ m.queues → MachineSoFar k m ss ts
      → MachineSoFar k new (ss ++ cond (keys_equal j k) [] []) (ts ++ cond (keys_equal j k) [] [])
  same_so_far j k m new ss ts logs queues h =
      with_none (new.logs k) (new.queues k) ss (cond (keys_equal j k) [] []) ts (cond (keys_equal j k) [] []) (cond_none (keys_equal j k) [] refl) (cond_none (keys_equal j k) [] refl) (unchanged_so_far k m new ss ts logs queues h)

  nothing_taken : (j k : PlainKey) (log : List PlainEntry) (q : PlainQueues) (ss : List (ℕ × PlainSubmission)) (ts : List PlainEntry) → KeySoFar log q ss ts → KeySoFar log q ss (ts ++ cond (keys_equal j k) [] [])
  nothing_taken j k log q ss ts h =
      (h.0, subst (λ (l : List PlainEntry). TakenSoFar log q.next id (queue_owned_by n (queue_at id q.queues)) l) (append_none ts (cond (keys_equal j k) [] []) (cond_none (keys_equal j k) [] refl)) h.1)

  nothing_more : (j k : PlainKey) (log : List PlainEntry) (q : PlainQueues) (ss : List (ℕ × PlainSubmission)) (ts : List PlainEntry) → KeySoFar log q ss ts → KeySoFar log q (ss ++ cond (keys_equal j k) [] []) ts
  nothing_more j k log q ss ts h = (h.0 ∙ append_none ss (cond (keys_equal j k) [] []) (cond_none (keys_equal j k) [] refl), h.1)

  call_so_far : (j k : PlainKey) (m new : Machine) (c : PlainCall) (a : CallAnswer c) (ss : List (ℕ × PlainSubmission)) (ts : List PlainEntry) → IsCallUnder n c → MachineStep n m j c a new → MachineSoFar k m ss ts
      → MachineSoFar k new (ss ++ cond (keys_equal j k) (stored_by_call c a) []) (ts ++ cond (keys_equal j k) (taken_by_call id c a) [])
  call_so_far j k m new (look s) a ss ts by d h = same_so_far j k m new ss ts d.1.0 d.1.1 h
  call_so_far j k m new (commit w now) a ss ts by d h = nothing_taken j k (new.logs k) (new.queues k) _ ts (commits_so_far j k m new w now a ss ts by d.1 d.0 h)
  call_so_far j k m new (commit_now s now) a ss ts by d h = nothing_taken j k (new.logs k) (new.queues k) _ ts (decides_so_far j k m new s now a ss ts by d.1 d.0 h)
  call_so_far j k m new current_version a ss ts by d h = same_so_far j k m new ss ts d.1.0 d.1.1 h
  call_so_far j k m new fetch a ss ts by d h = same_so_far j k m new ss ts d.1.0 d.1.1 h
  call_so_far j k m new (ops_from v) a ss ts by d h = same_so_far j k m new ss ts d.1.0 d.1.1 h
  call_so_far j k m new (ops_between v w) a ss ts by d h = same_so_far j k m new ss ts d.1.0 d.1.1 h
  call_so_far j k m new (snapshot v) a ss ts by d h = same_so_far j k m new ss ts d.1.0 d.1.1 h
  call_so_far j k m new (snapshot_at_time t) a ss ts by d h = same_so_far j k m new ss ts d.1.0 d.1.1 h
  call_so_far j k m new forget a ss ts by d h = same_so_far j k m new ss ts d.0 d.1 h
  call_so_far j k m new (subscribe v) a ss ts by d h =
      nothing_more j k (new.logs k) (new.queues k) ss _
      (queue_call_so_far j k m new (new.queues j) ss ts [] d.1 d.2 (subscribes_so_far (m.logs j) v (m.queues j) (new.queues j) a ss ts d.0) h)
  call_so_far j k m new (take_next i max) a ss ts by d h =
      nothing_more j k (new.logs k) (new.queues k) ss _
      (queue_call_so_far j k m new (new.queues j) ss ts (cond (nat_eq i id) (taken_entries_or_none a) []) d.1 d.2 (takes_so_far (m.logs j) i max (m.queues j) (new.queues j) a ss ts d.0) h)
  call_so_far j k m new (unsubscribe i) a ss ts by d h =
      let here : new.queues j ≡ close_queue n i (m.queues j) = value_of_updated m.queues new.queues j (close_queue n i (m.queues j)) d.0 in
      nothing_more j k (new.logs k) (new.queues k) ss _
      (queue_call_so_far j k m new (close_queue n i (m.queues j)) ss ts [] d.0 d.2
      (closes_so_far (m.logs j) i (m.queues j) ss ts (eqb_tells i id) (λ own. ap (λ (q : PlainQueues). queue_at i q.queues) (sym here) ∙ d.1 own)) h)

  -- ---- calls of a pass

  abbrev PassSoFar : PlainKey → Pass → List (ℕ × PlainSubmission) → List PlainEntry → Type 0
  PassSoFar k p ss ts = (x : Held) × PassHasSeen p k x × MachineSoFar k (machine_of x.shard) ss ts × (pass_number p ≡ n)

  not_the_key : (b : Bool) (j k : PlainKey) → keys_equal j k ≡ b → shard_of j ≢ shard_of k → b ≡ false
  not_the_key true j k is ne = absurd (ne (ap shard_of (eq_of_keys_equal j k is)))
  not_the_key false j k is ne = refl

  call_of_pass : (k : PlainKey) (c : AnsweredCall) (p o : Pass) (ss : List (ℕ × PlainSubmission)) (ts : List PlainEntry) → ((nat_eq (shard_of c.key) (shard_of k) ≡ true) × (shard_of c.key ≡ shard_of k)) ⊎ ((nat_eq (shard_of c.key) (shard_of k) ≡ false) × (shard_of c.key ≡ shard_of k → ⊥))
      → IsCallUnder (pass_number p) c.call → AnsweredAtExtension c.key c.call p c.answer o → PassSoFar k p ss ts
      → PassSoFar k o (ss ++ cond (keys_equal c.key k) (stored_by_call c.call c.answer) []) (ts ++ cond (keys_equal c.key k) (taken_by_call id c.call c.answer) [])
  call_of_pass k c p o ss ts (inl t) by d h =
      let seen : PassHasSeen p k d.observed = subst (λ (i : ℕ). PassHasSeenShard p i d.observed) t.1 d.seen_before in
      let one : h.0 ≡ d.observed = have_seen_unique p.seats (shard_of k) h.0 d.observed h.1 seen in
      let before : MachineSoFar k (machine_of d.observed.shard) ss ts = subst (λ (y : Held). MachineSoFar k (machine_of y.shard) ss ts) one h.2 in
      let same : share_of n (machine_of d.observed.shard) ≡ share_of n (machine_of d.history.shard) = subst (λ (i : ℕ). share_of i (machine_of d.observed.shard) ≡ share_of i (machine_of d.history.shard)) h.3 d.share_unchanged in
      let at = so_far_grown k (machine_of d.observed.shard) (machine_of d.history.shard) ss ts d.extends same before in
      let step : MachineStep n (machine_of d.history.shard) c.key c.call c.answer (machine_of d.next.shard) = subst (λ (i : ℕ). MachineStep i (machine_of d.history.shard) c.key c.call c.answer (machine_of d.next.shard)) h.3 d.ran in
      let own : IsCallUnder n c.call = subst (λ (i : ℕ). IsCallUnder i c.call) h.3 by in (
        d.next,
        subst (λ (i : ℕ). PassHasSeenShard o i d.next) t.1 d.seen_after,
        call_so_far c.key k (machine_of d.history.shard) (machine_of d.next.shard) c.call c.answer ss ts own step at,
        d.number_unchanged ∙ h.3,
      )
  call_of_pass k c p o ss ts (inr f) by d h =
      let other : keys_equal c.key k ≡ false = not_the_key (keys_equal c.key k) c.key k refl f.1 in
      let m = machine_of h.0.shard in
      let none : cond (keys_equal c.key k) (stored_by_call c.call c.answer) [] ≡ [] = ap (λ (b : Bool). cond b (stored_by_call c.call c.answer) []) other in
      let nothing : cond (keys_equal c.key k) (taken_by_call id c.call c.answer) [] ≡ [] = ap (λ (b : Bool). cond b (taken_by_call id c.call c.answer) []) other in (
        h.0,
        (λ (s : Seat Held). subst (λ (t : Seat Held). HasSeen t h.0) (sym (d.others_unchanged (shard_of k) s (λ e. f.1 (sym e)))) (h.1 s)),
        with_none (m.logs k) (m.queues k) ss _ ts _ none nothing h.2,
        d.number_unchanged ∙ h.3,
      )

  calls_of_pass : (k : PlainKey) (calls : List AnsweredCall) (p q : Pass) (ss : List (ℕ × PlainSubmission)) (ts : List PlainEntry) → AreAnswered calls p q → PassSoFar k p ss ts
      → PassSoFar k q (ss ++ stored_by_calls k calls) (ts ++ taken_by_calls k id calls)
  calls_of_pass k [] p q ss ts e h =
      let all : PassSoFar k p (ss ++ []) (ts ++ []) = (h.0, h.1, with_none _ _ ss [] ts [] refl refl h.2, h.3) in
      subst (λ (x : Pass). PassSoFar k x (ss ++ []) (ts ++ [])) (sym e) all
  calls_of_pass k (c ∷ calls) p q ss ts (o, by, d, more) h =
      let one = cond (keys_equal c.key k) (stored_by_call c.call c.answer) [] in
      let got = cond (keys_equal c.key k) (taken_by_call id c.call c.answer) [] in
      let next = calls_of_pass k calls o q (ss ++ one) (ts ++ got) more (call_of_pass k c p o ss ts (eqb_tells (shard_of c.key) (shard_of k)) by d h) in
      subst (λ (x : List (ℕ × PlainSubmission)). PassSoFar k q x (ts ++ (got ++ taken_by_calls k id calls))) (append_assoc ss one (stored_by_calls k calls))
      (subst (λ (y : List PlainEntry). PassSoFar k q ((ss ++ one) ++ stored_by_calls k calls) y) (append_assoc ts got (taken_by_calls k id calls)) next)

taken_if_owned : (log : List PlainEntry) (next id : ℕ) (o : Option PlainQueue) (ts : List PlainEntry) → TakenSoFar log next id o ts → IfSome o (λ w. ts ≡ queue log w.start w.taken)
taken_if_owned log next id None ts h = tt
taken_if_owned log next id (Some w) ts h = h.0

all_calls : (id : ℕ) (k : PlainKey) (calls : List AnsweredCall) (p q : Pass) → HasEmptyShare p → AreAnswered calls p q
    → PassSoFar (pass_number p) id k q (stored_by_calls k calls) (taken_by_calls k id calls)
all_calls id k calls p q new answered =
    let n = pass_number p in
    let start = new (shard_of k) (mod-lt (sum k.collection + sum k.id) (search rules)) in
    let m = machine_of start.0.shard in
    let queues : queue_owned_by n (queue_at id (m.queues k).queues) ≡ None = ap (λ (s : Share). s.queues k id) start.2 in
    calls_of_pass n id k calls p q [] [] answered (
      start.0,
      start.1,
      (
        ap (λ (s : Share). map entry_identity (s.entries k)) start.2,
        subst (λ (o : Option PlainQueue). TakenSoFar (m.logs k) (m.queues k).next id o []) (sym queues) (inl refl),
      ),
      refl,
    )

pub has_stored_calls : (k : PlainKey) (calls : List AnsweredCall) (p q : Pass) → HasEmptyShare p → AreAnswered calls p q → HasStoredCalls k calls q
has_stored_calls k calls p q new answered =
    let h = all_calls 0 k calls p q new answered in
    (h.0, h.1, ap (λ (i : ℕ). map entry_identity ((share_of i (machine_of h.0.shard)).entries k)) h.3 ∙ h.2.0)

pub has_taken_queue : (k : PlainKey) (id : ℕ) (calls : List AnsweredCall) (p q : Pass) → HasEmptyShare p → AreAnswered calls p q → HasTakenQueue k id calls q
has_taken_queue k id calls p q new answered =
    let h = all_calls id k calls p q new answered in
    let m = machine_of h.0.shard in
    let o = queue_at id (m.queues k).queues in (
      h.0,
      h.1,
      subst (λ (i : ℕ). IfSome (queue_owned_by i o) (λ w. taken_by_calls k id calls ≡ queue (m.logs k) w.start w.taken)) (sym h.3)
          (taken_if_owned (m.logs k) (m.queues k).next id (queue_owned_by (pass_number p) o) (taken_by_calls k id calls) h.2.1),
    )
