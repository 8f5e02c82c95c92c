-- Laws of chains: a chain preserves what each call preserves; with the machine as desk, a submission is atomic and a
-- listing is one read.
use Rattle.std.proofs.Common.{◌≡◌, ◌≢◌, ℕ, zero, suc, ◌+◌, ◌-◌, ◌<◌, ◌≤◌, List, [], ◌∷◌, ◌++◌, length, take, drop, Bool, true, false, cond, nat_lt, refl, sym, ap, ◌∙◌, subst, inl, inr, ◌⊎◌, Some, None, Result, Ok, Err, arith}
use Rattle.std.proofs.lemmas.Bool.{le-ltb, lt-ltb}
use Rattle.std.proofs.lemmas.Bool.Decides.{nat_tests}
use Rattle.std.proofs.lemmas.List.{drop-take, length-drop, length-take, take_rest}
use Rattle.std.proofs.Math.Seq.{drop-nil, take-add}
use Rattle.std.specs.Option.{option_map_or}
use Rattle.std.specs.Result.{result_ok}
use Rattle.sdb_oplog.specs.Plain.{PlainEntry, PlainSubmission}
use Rattle.sdb_oplog.specs.declared.codes.Code.{Code}
use Rattle.sdb_oplog.specs.Decide.{PlainReply, refused}
use Rattle.sdb_oplog.specs.laws.LogLaws.{decide_not_out_of_memory}
use Rattle.sdb_oplog.specs.Keys.{PlainKey, Logs}
use Rattle.sdb_oplog.specs.declared.codes.Code.TheVariants.{E4, E10}
use Rattle.sdb_desk.specs.Looks.{IsLook}
use Rattle.sdb_desk.specs.laws.LookLaws.{is_look_now}
use Rattle.sdb_desk.specs.Machine.{PlainLook, PlainAttempt, PlainOutcome, work_allocates, decided, moved, Machine, IsUnchanged, CommitsOrOutOfMemory, DecidesOrOutOfMemory, ReadOrOutOfMemory, is_nonempty, operations_between, operations_from}
use Rattle.sdb_submit.specs.Calls.{look, commit, commit_now, current_version, ops_between, MachineStep, OnMoved}
use Rattle.sdb_submit.specs.SubmitLoop.{CallRelation, SubmitRetries, SubmitRelation, PlainBatch, total_size, entries_of, ReadsBatches, ListsAll}

-- ---- the chain preserves what each call preserves

module _ {P : Type 0} (acts : CallRelation P) (s : PlainSubmission) (now : ℕ) (D : P → PlainReply → P → Type 0) where
  -- a relation D between the pass before, the reply and the pass after, that holds of each chain
  pub record IsSubmitInvariant : Type 0 where
    pub look_failed : (p o q : P) (r : PlainReply) → acts (look s) p None o → D o r q → D p r q
    pub look_taken : (p o q : P) (l : PlainLook) (r : PlainReply) → acts (look s) p (Some l) o → D o r q → D p r q
    pub commit_moved : (p o q : P) (l m : PlainLook) (r : PlainReply)
        → acts (commit (record { submission = s; look = l }) now) p (moved m) o → D o r q → D p r q
    pub work_failed : (p o q : P) (l : PlainLook) (r : PlainReply)
        → acts (commit (record { submission = s; look = l }) now) p (decided (refused E10)) o → D o r q → D p r q
    pub commit_decided : (p q : P) (l : PlainLook) (r : PlainReply)
        → acts (commit (record { submission = s; look = l }) now) p (decided r) q → r ≢ refused E10 → D p r q
    pub commit_now_decided : (p q : P) (r : PlainReply) → acts (commit_now s now) p r q → D p r q

  abbrev OneTry : ℕ → PlainLook → P → PlainReply → P → Type 0
  OneTry n l p r q =
      ((work_allocates (record { submission = s; look = l }) ≡ true) × acts (commit_now s now) p r q)
      ⊎ ((acts (commit (record { submission = s; look = l }) now) p (decided r) q × (r ≢ refused E10))
      ⊎ (((o : P) × (acts (commit (record { submission = s; look = l }) now) p (decided (refused E10)) o
      × acts (commit_now s now) o r q))
      ⊎ ((m : PlainLook)
      × ((o : P) × (acts (commit (record { submission = s; look = l }) now) p (moved m) o × SubmitRetries acts s now n m o r q)))))

  one_try_preserves : (k : IsSubmitInvariant) (n : ℕ) (l : PlainLook) (p : P) (r : PlainReply) (q : P)
      → ((m : PlainLook) (o : P) → SubmitRetries acts s now n m o r q → D o r q) → OneTry n l p r q → D p r q
  one_try_preserves k n l p r q below (inl h) = k.commit_now_decided p q r h.1
  one_try_preserves k n l p r q below (inr (inl h)) = k.commit_decided p q l r h.0 h.1
  one_try_preserves k n l p r q below (inr (inr (inl h))) = k.work_failed p h.0 q l r h.1.0 (k.commit_now_decided h.0 q r h.1.1)
  one_try_preserves k n l p r q below (inr (inr (inr h))) = k.commit_moved p h.1.0 q l h.0 r h.1.1.0 (below h.0 h.1.0 h.1.1.1)

  retries_preserve : (k : IsSubmitInvariant) (n : ℕ) (l : PlainLook) (p : P) (r : PlainReply) (q : P) → SubmitRetries acts s now n l p r q → D p r q
  unfolding SubmitRetries
  retries_preserve k zero l p r q h = k.commit_now_decided p q r h
  retries_preserve k (suc n) l p r q h = one_try_preserves k n l p r q (λ m o t. retries_preserve k n m o r q t) h

  pub submit_preserves : (k : IsSubmitInvariant) (p : P) (r : PlainReply) (q : P) → SubmitRelation acts s now p r q → D p r q
  submit_preserves k p r q (inl h) = k.look_failed p h.0 q r h.1.0 (k.commit_now_decided h.0 q r h.1.1)
  submit_preserves k p r q (inr h) = k.look_taken p h.1.0 q h.0 r h.1.1.0 (retries_preserve k 8 h.0 h.1.0 r q h.1.1.1)

-- ---- a commit

-- a commit that decides does what an atomic submission does
pub decided_at_commit : (logs new : Logs) (k : PlainKey) (a : PlainAttempt) (now : ℕ) (r : PlainReply) → r ≢ refused E10
    → CommitsOrOutOfMemory logs k a now (decided r) new → DecidesOrOutOfMemory logs k a.submission now r new
decided_at_commit logs new k a now r isnt (inl h) = absurd (isnt h.0)
decided_at_commit logs new k a now r isnt (inr h) = inr (h.1, h.2)

-- a commit that fails to allocate changes nothing
pub out_of_memory_unchanged : (logs new : Logs) (k : PlainKey) (a : PlainAttempt) (now : ℕ)
    → CommitsOrOutOfMemory logs k a now (decided (refused E10)) new
    → new ≡ logs
out_of_memory_unchanged logs new k a now (inl h) = h.1
out_of_memory_unchanged logs new k a now (inr h) = absurd (decide_not_out_of_memory (logs k) a.submission now (sym h.1))

-- the new look of a commit that finds a longer log is a look at the log
pub moved_is_look : (logs new : Logs) (k : PlainKey) (a : PlainAttempt) (now : ℕ) (o : PlainOutcome)
    → CommitsOrOutOfMemory logs k a now o new
    → OnMoved o (λ l. IsLook (new k) (record { submission = a.submission; look = l }))
moved_is_look logs new k a now (decided r) h = tt
moved_is_look logs new k a now (moved l) h =
    subst (λ (f : Logs). IsLook (f k) (record { submission = a.submission; look = l })) (sym h.2)
    (subst (λ (x : PlainLook). IsLook (logs k) (record { submission = a.submission; look = x })) (sym h.1)
    (is_look_now (logs k) a.submission))

-- ---- a submission to the machine

module _ {P : Type 0} (machine : P → Machine) (by : ℕ) (k : PlainKey) (s : PlainSubmission) (now : ℕ) where
  -- each call acts on the machine
  abbrev MachineCalls : CallRelation P
  MachineCalls c p a q = MachineStep by (machine p) k c a (machine q)

  -- the submission is decided, and the queues are unchanged
  abbrev AtomicSubmit : P → PlainReply → P → Type 0
  AtomicSubmit p r q = DecidesOrOutOfMemory (machine p).logs k s now r (machine q).logs × ((machine q).queues ≡ (machine p).queues)

  atomic_submit_later : (p o q : P) (r : PlainReply) → (machine o).logs ≡ (machine p).logs → (machine o).queues ≡ (machine p).queues
      → AtomicSubmit o r q → AtomicSubmit p r q
  atomic_submit_later p o q r logs queues h = (subst (λ l. DecidesOrOutOfMemory l k s now r (machine q).logs) logs h.0, h.1 ∙ queues)

  abbrev attempt_at : PlainLook → PlainAttempt
  attempt_at l = record { submission = s; look = l }

  atomic_submit_invariant : IsSubmitInvariant MachineCalls s now AtomicSubmit
  atomic_submit_invariant = record {
    look_failed = λ p o q r h d. atomic_submit_later p o q r h.1.0 h.1.1 d;
    look_taken = λ p o q l r h d. atomic_submit_later p o q r h.1.0 h.1.1 d;
    commit_moved = λ p o q l m r h d. atomic_submit_later p o q r h.0.2 h.1 d;
    work_failed = λ p o q l r h d.
        atomic_submit_later p o q r (out_of_memory_unchanged (machine p).logs (machine o).logs k (attempt_at l) now h.0) h.1 d;
    commit_decided = λ p q l r h isnt.
        (decided_at_commit (machine p).logs (machine q).logs k (attempt_at l) now r isnt h.0, h.1);
    commit_now_decided = λ p q r h. h;
  }

-- a submission whose calls all act on the machine is decided atomically, and leaves the queues unchanged
pub submit_is_atomic : {P : Type 0} (machine : P → Machine) (by : ℕ) (k : PlainKey) (s : PlainSubmission) (now : ℕ)
    (p q : P) (r : PlainReply) → SubmitRelation (λ c p a q. MachineStep by (machine p) k c a (machine q)) s now p r q
    → DecidesOrOutOfMemory (machine p).logs k s now r (machine q).logs × ((machine q).queues ≡ (machine p).queues)
submit_is_atomic machine by k s now p q r h =
    submit_preserves (MachineCalls machine by k s now) s now (AtomicSubmit machine by k s now) (atomic_submit_invariant machine by k s now)
    p r q h

-- ---- entries in batches

unchanged_trans : (m n o : Machine) → IsUnchanged m n → IsUnchanged n o → IsUnchanged m o
unchanged_trans m n o a b = (b.0 ∙ a.0, b.1 ∙ a.1)

pub drop_drop : {A : Type 0} (v w : ℕ) (l : List A) → drop (v + w) l ≡ drop w (drop v l)
drop_drop zero w l = let none : zero + w ≡ w = omega arith in ap (λ n. drop n l) none
drop_drop (suc v) w [] = drop-nil (suc v + w) ∙ sym (drop-nil w)
drop_drop (suc v) w (x ∷ l) =
    let one : suc v + w ≡ suc (v + w) = omega arith in
    ap (λ n. drop n (x ∷ l)) one ∙ drop_drop v w l

pub length_of_not_empty : (es : List PlainEntry) → is_nonempty es ≡ true → 0 < length es
length_of_not_empty [] h = cc
length_of_not_empty (e ∷ es) h = omega arith

not_empty_of_length : (es : List PlainEntry) → 0 < length es → is_nonempty es ≡ true
not_empty_of_length [] h = absurd (omega (arith, h))
not_empty_of_length (e ∷ es) h = refl

-- entries before a version are entries of the whole log
pub between_not_empty : (log : List PlainEntry) (v n : ℕ) → is_nonempty (operations_between log v n) ≡ true → is_nonempty (drop v log) ≡ true
between_not_empty log v n h =
    let some = length_of_not_empty (operations_between log v n) h in
    let short = length-drop v (take n log) in
    let cut = length-take n log in
    let all = length-drop v log in
    not_empty_of_length (drop v log) (grind (arith, nat_tests))

pub operations_reached : (log : List PlainEntry) (v : ℕ) → v ≤ length log → operations_from log v ≡ Ok (drop v log)
operations_reached log v within = operations_cond (nat_lt (length log) v) refl where
  operations_cond : (b : Bool) → nat_lt (length log) v ≡ b
      → cond {A = Result (List PlainEntry) Code} b (Err E4) (Ok (drop v log)) ≡ Ok (drop v log)
  operations_cond true is = let no : nat_lt (length log) v ≡ false = le-ltb (length log) v within in cc
  operations_cond false is = refl

pub operations_too_new : (log : List PlainEntry) (v : ℕ) → length log < v → operations_from log v ≡ Err E4
operations_too_new log v ahead =
    ap (λ b. cond {A = Result (List PlainEntry) Code} b (Err E4) (Ok (drop v log))) (lt-ltb (length log) v ahead)

module _ {P : Type 0} (machine : P → Machine) (by : ℕ) (k : PlainKey) where
  abbrev KeyCalls : CallRelation P
  KeyCalls c p a q = MachineStep by (machine p) k c a (machine q)

  -- batches read from the machine are its entries
  pub reads_batches_append : (v : ℕ) (xs : List PlainBatch) (p q : P) → ReadsBatches KeyCalls v xs p q
      → (entries_of xs ≡ take (total_size xs) (drop v ((machine p).logs k))) × IsUnchanged (machine p) (machine q)
  unfolding ReadsBatches
  reads_batches_append v [] p q h =
      let same : machine q ≡ machine p = ap machine h in
      (refl, (ap (λ (m : Machine). m.logs) same, ap (λ (m : Machine). m.queues) same))
  reads_batches_append v (x ∷ xs) p q (o, ((copied, same), more)) =
      let log = (machine p).logs k in
      let below = reads_batches_append (v + x.size) xs o q more in
      let here : x.entries ≡ take x.size (drop v log) = copied ∙ drop-take v x.size log in
      let there : entries_of xs ≡ take (total_size xs) (drop x.size (drop v log)) =
      below.0 ∙ ap (λ (f : Logs). take (total_size xs) (drop (v + x.size) (f k))) same.0
      ∙ ap (take (total_size xs)) (drop_drop v x.size log) in (
        (λ i. here i ++ there i) ∙ sym (take-add x.size (total_size xs) (drop v log)),
        unchanged_trans (machine p) (machine o) (machine q) same below.1,
      )

  -- entries listed from the machine in batches equal one listing, and nothing changes
  pub lists_all_is_operations : (v : ℕ) (p q : P) (r : Result (List PlainEntry) Code) → ListsAll KeyCalls v p r q
      → ReadOrOutOfMemory is_nonempty r (operations_from ((machine p).logs k) v) × IsUnchanged (machine p) (machine q)
  lists_all_is_operations v p q (Ok es) (xs, (o, ((last, same), reads, all))) =
      let log = (machine p).logs k in
      let below = reads_batches_append v xs o q reads in
      let rest : total_size xs ≡ length log - v = omega (arith, last) in
      let entries : es ≡ drop v log =
      all ∙ below.0 ∙ ap (λ (f : Logs). take (total_size xs) (drop v (f k))) same.0
      ∙ ap (λ n. take n (drop v log)) rest ∙ take_rest log v in (
        inr (ap Ok entries ∙ sym (operations_reached log v (omega (arith, last)))),
        unchanged_trans (machine p) (machine o) (machine q) same below.1,
      )
  lists_all_is_operations v p q (Err code) (inl (last, ((is, same), ahead, due))) =
      let log = (machine p).logs k in
      (inr (ap Err due ∙ sym (operations_too_new log v (omega (arith, is, ahead)))), same)
  lists_all_is_operations v p q (Err code) (inr (last, (n, (o, ((is, same), (wants, after), within, due))))) =
      let log = (machine p).logs k in
      let some : is_nonempty (drop v log) ≡ true =
      between_not_empty log v n (ap (λ (f : Logs). is_nonempty (operations_between (f k) v n)) (sym same.0) ∙ wants) in
      let long = length_of_not_empty (drop v log) some in
      let all = length-drop v log in
      let reached = operations_reached log v (omega (arith, long, all)) in (
        inl (ap Err due, ap (λ r. option_map_or is_nonempty (result_ok r) false) reached ∙ some),
        unchanged_trans (machine p) (machine o) (machine q) same after,
      )
