-- A commit of the shard as a commit of the attempt.
use Rattle.std.proofs.Common.{◌≡◌, ℕ, ◌+◌, ◌<◌, List, length, Bool, true, false, ◌||◌, ◌&&◌, not, nat_eq, Option, Some, None, inl, inr, refl, sym, ap, ◌∙◌, arith}
use Rattle.std.specs.Option.{is_some}
use Rattle.std.proofs.lemmas.Bool.{eq-eqb, eqb-true}
use Rattle.std.proofs.lemmas.Bool.Decides.{nat_tests}
use Rattle.sdb_oplog.specs.declared.codes.Code.TheVariants.{E10}
use Rattle.sdb_oplog.specs.Plain.{PlainEntry, PlainSubmission}
use Rattle.sdb_oplog.specs.Keys.{PlainKey, Logs, with_log}
use Rattle.sdb_oplog.specs.Decide.{PlainReply, refused, decide, decide_allocates}
use Rattle.sdb_oplog.specs.laws.LogLaws.{decide_not_out_of_memory}
use Rattle.sdb_desk.specs.ShardView.{logs_of, queues_of}
use Rattle.sdb_desk.specs.Looks.{IsLook}
use Rattle.sdb_desk.specs.Machine.{PlainLook, PlainAttempt, look_allocates, work_allocates, decided, moved, CommitAllocates, CommitsOrOutOfMemory, DecidesOrOutOfMemory}
use Rattle.sdb_desk.specs.declared.shard.Shard.{Shard}
use Rattle.sdb_steps.specs.OneStep as machine
use Rattle.sdb_steps.specs.OneStep.{OneStep, machine_after_event}
use Rattle.sdb_steps.specs.Picks as plain
use Rattle.sdb_steps.specs.Dispatch.{AttemptCommits}
use Rattle.sdb_steps.specs.LookInvariant.{attempt_in}
use Rattle.sdb_steps.specs.StateView.{one_step_of_shard, attempt_at}
use Rattle.sdb_steps.specs.declared.session_data.Phase.{Phase}
use Rattle.sdb_steps.specs.declared.session_data.Phase.TheVariants.{Looked, Moved, Worked}

-- ---- the machine of a shard

pub same_core : (m n : Shard) → logs_of n ≡ logs_of m → queues_of n ≡ queues_of m → one_step_of_shard n ≡ one_step_of_shard m
same_core m n l q = λ i. record { logs = l i; issued_ids = λ k. (q i k).next }

stored_core : (m n : Shard) (k : PlainKey) (s : PlainSubmission) (now : ℕ) → logs_of n ≡ with_log (logs_of m) k (decide (logs_of m k) s now).log → queues_of n ≡ queues_of m → one_step_of_shard n ≡ machine_after_event (one_step_of_shard m) (machine.submission k s now)
stored_core m n k s now l q = λ i. record { logs = l i; issued_ids = λ j. (q i j).next }

-- ---- tries

-- the attempt of a phase with a look at the log, or at a prefix of it
pub attempt_is : (m : OneStep) (k : PlainKey) (s : Phase) (n : ℕ) → IsLook (m.logs k) (attempt_in s) → attempt_in s ≡ plain.attempt_with_look m (attempt_at k s n)
attempt_is m k (Looked a) n h = λ i. record { submission = a.submission; look = h.is i }
attempt_is m k (Moved w l) n h = λ i. record { submission = w.submission; look = h.is i }
attempt_is m k (Worked w) n h = λ i. record { submission = w.submission; look = h.is i }

-- its work
pub work_of_attempt : (m : OneStep) (k : PlainKey) (s : Phase) (n : ℕ) → IsLook (m.logs k) (attempt_in s) → work_allocates (attempt_in s) ≡ true → plain.attempt_work_allocates m (attempt_at k s n) ≡ true
work_of_attempt m k s n h wants = ap work_allocates (sym (attempt_is m k s n h)) ∙ wants

or_left : (b c : Bool) → b ≡ true → (b || c) ≡ true
or_left true c h = refl
or_left false c h = cc

or_right : (b c : Bool) → c ≡ true → (b || c) ≡ true
or_right true c h = refl
or_right false c h = h

-- a new look after a work that failed to allocate
looks_unworked : (b : Bool) (worked takes : Bool) → worked ≡ false → takes ≡ true → (b || (not worked && takes)) ≡ true
looks_unworked b true takes none wants = cc
looks_unworked b false takes none wants = or_right b takes wants

-- the attempt of a work
abbrev pub attempt_of : PlainKey → PlainAttempt → ℕ → Bool → plain.PlainOpenAttempt
attempt_of k w tries worked = record { key = k; submission = w.submission; looked_version = w.look.version; tries = tries; is_worked = worked }

or_true : (b : Bool) → (b || true) ≡ true
or_true true = refl
or_true false = refl

commit_out_of_memory : (logs new : Logs) (k : PlainKey) (w : PlainAttempt) (now : ℕ) (r : PlainReply) → r ≡ refused E10 → CommitsOrOutOfMemory logs k w now (decided r) new → new ≡ logs
commit_out_of_memory logs new k w now r is (inl h) = h.1
commit_out_of_memory logs new k w now r is (inr h) = absurd (decide_not_out_of_memory (logs k) w.submission now (sym h.1 ∙ is))

or_first : (b c : Bool) → c ≡ false → (b || c) ≡ true → b ≡ true
or_first true c none h = refl
or_first false c none h = let never : false ≡ true = sym none ∙ h in cc

takes_if : (log : List PlainEntry) (w : PlainAttempt) → CommitAllocates log w → length log ≡ w.look.version → decide_allocates log w.submission ≡ true
takes_if log w (inl h) e = absurd (h.0 e)
takes_if log w (inr h) e = h.1

commit_allocates : (logs new : Logs) (k : PlainKey) (w : PlainAttempt) (now : ℕ) (r : PlainReply) → r ≡ refused E10 → CommitsOrOutOfMemory logs k w now (decided r) new → length (logs k) ≡ w.look.version → decide_allocates (logs k) w.submission ≡ true
commit_allocates logs new k w now r is (inl h) e = takes_if (logs k) w h.2 e
commit_allocates logs new k w now r is (inr h) e = absurd (decide_not_out_of_memory (logs k) w.submission now (sym h.1 ∙ is))

looks_if : (log : List PlainEntry) (w : PlainAttempt) (last : Bool) → CommitAllocates log w → (nat_eq (length log) w.look.version || last) ≡ false → look_allocates log w.submission ≡ true
looks_if log w last (inl h) none = h.1
looks_if log w last (inr h) none =
    let same : nat_eq (length log) w.look.version ≡ true = eq-eqb (length log) w.look.version h.0 in
    let never : true ≡ false = sym (ap (λ b. b || last) same) ∙ none in cc

commit_looks : (logs new : Logs) (k : PlainKey) (w : PlainAttempt) (now : ℕ) (r : PlainReply) (last : Bool) → r ≡ refused E10 → CommitsOrOutOfMemory logs k w now (decided r) new
    → (nat_eq (length (logs k)) w.look.version || last) ≡ false → look_allocates (logs k) w.submission ≡ true
commit_looks logs new k w now r last is (inl h) none = looks_if (logs k) w last h.2 none
commit_looks logs new k w now r last is (inr h) none = absurd (decide_not_out_of_memory (logs k) w.submission now (sym h.1 ∙ is))

pub tries_out_of_memory : (m n : Shard) (k : PlainKey) (w : PlainAttempt) (now : ℕ) (r : PlainReply) (tries : ℕ) (worked : Bool) (o : plain.PlainOpenAttempt) → tries < 8 → r ≡ refused E10 → CommitsOrOutOfMemory (logs_of m) k w now (decided r) (logs_of n) → queues_of n ≡ queues_of m
    → o ≡ attempt_of k w tries worked → AttemptCommits (one_step_of_shard m) (attempt_of k w tries worked) now plain.out_of_memory (one_step_of_shard n) (Some o)
tries_out_of_memory m n k w now r tries worked o few is h q same =
    let more : nat_eq tries 8 ≡ false = grind (arith, nat_tests) in (
      same_core m n (commit_out_of_memory (logs_of m) (logs_of n) k w now r is h) q,
      ap Some same,
      (λ d. commit_allocates (logs_of m) (logs_of n) k w now r is h (eqb-true (length (logs_of m k)) w.look.version (or_first (nat_eq (length (logs_of m k)) w.look.version) (nat_eq tries 8) more d))),
      (λ d. or_left _ _ (commit_looks (logs_of m) (logs_of n) k w now r (nat_eq tries 8) is h d)),
    )

-- an unworked attempt for a log that has grown
pub unworked_out_of_memory : (m : Shard) (a o : plain.PlainOpenAttempt) (now : ℕ) → a.tries < 8 → (length (logs_of m a.key) ≡ a.looked_version → ⊥) → o ≡ a
    → a.is_worked ≡ false → plain.attempt_work_allocates (one_step_of_shard m) a ≡ true → AttemptCommits (one_step_of_shard m) a now plain.out_of_memory (one_step_of_shard m) (Some o)
unworked_out_of_memory m a o now few apart same none wants =
    let more : nat_eq a.tries 8 ≡ false = grind (arith, nat_tests) in (
      refl,
      ap Some same,
      (λ d. absurd (apart (eqb-true (length (logs_of m a.key)) a.looked_version (or_first (nat_eq (length (logs_of m a.key)) a.looked_version) (nat_eq a.tries 8) more d)))),
      (λ d. looks_unworked (look_allocates (logs_of m a.key) a.submission) a.is_worked (plain.attempt_work_allocates (one_step_of_shard m) a) none wants),
    )

-- an attempt decides on the ninth try, and if the log hasn't grown since the look
pub last_decides : (m : Shard) (a : plain.PlainOpenAttempt) → a.tries ≡ 8 → plain.is_deciding (one_step_of_shard m) a ≡ true
last_decides m a last = let b = nat_eq (length (logs_of m a.key)) a.looked_version in ap (λ t. b || nat_eq t 8) last ∙ or_true b

pub same_decides : (m : Shard) (a : plain.PlainOpenAttempt) → length (logs_of m a.key) ≡ a.looked_version → plain.is_deciding (one_step_of_shard m) a ≡ true
same_decides m a e = ap (λ b. b || nat_eq a.tries 8) (eq-eqb (length (logs_of m a.key)) a.looked_version e)

pub tries_decided : (m n : Shard) (k : PlainKey) (w : PlainAttempt) (now : ℕ) (r : PlainReply) (tries : ℕ) (worked : Bool) → (r ≡ refused E10 → ⊥) → CommitsOrOutOfMemory (logs_of m) k w now (decided r) (logs_of n) → queues_of n ≡ queues_of m
    → AttemptCommits (one_step_of_shard m) (attempt_of k w tries worked) now (plain.reply_answer (machine.decided r)) (one_step_of_shard n) None
tries_decided m n k w now r tries worked enough (inl h) q = absurd (enough h.0)
tries_decided m n k w now r tries worked enough (inr h) q =
    let looked : nat_eq (length (logs_of m k)) w.look.version ≡ true = eq-eqb (length (logs_of m k)) w.look.version h.0 in
    (ap (λ b. b || nat_eq tries 8) looked, ap machine.decided h.1, stored_core m n k w.submission now h.2 q, refl)

pub tries_moved : (m n : Shard) (k : PlainKey) (w : PlainAttempt) (now : ℕ) (l : PlainLook) (tries : ℕ) (worked : Bool) (o : plain.PlainOpenAttempt) → tries < 8 → CommitsOrOutOfMemory (logs_of m) k w now (moved l) (logs_of n) → queues_of n ≡ queues_of m
    → o ≡ record { key = k; submission = w.submission; looked_version = l.version; tries = tries + 1; is_worked = false } → AttemptCommits (one_step_of_shard m) (attempt_of k w tries worked) now (plain.notice_answer plain.moved) (one_step_of_shard n) (Some o)
tries_moved m n k w now l tries worked o few h q is =
    let apart = h.0 in
    let looked : nat_eq (length (logs_of m k)) w.look.version ≡ false = grind (arith, nat_tests) in
    let more : nat_eq tries 8 ≡ false = grind (arith, nat_tests) in
    let again : l.version ≡ length (logs_of m k) = ap (λ x. x.version) h.1 in (
      ap (λ b. b || nat_eq tries 8) looked ∙ more,
      refl,
      same_core m n h.2 q,
      ap Some (is ∙ ap (λ v. record { key = k; submission = w.submission; looked_version = v; tries = tries + 1; is_worked = false }) again),
    )

-- ---- the ninth try

pub now_out_of_memory : (m n : Shard) (a : plain.PlainOpenAttempt) (now : ℕ) (r : PlainReply) → plain.is_deciding (one_step_of_shard m) a ≡ true → r ≡ refused E10 → DecidesOrOutOfMemory (logs_of m) a.key a.submission now r (logs_of n) → queues_of n ≡ queues_of m → AttemptCommits (one_step_of_shard m) a now plain.out_of_memory (one_step_of_shard n) (Some a)
now_out_of_memory m n a now r due is (inl h) q = (same_core m n h.1 q, refl, (λ d. h.2), (λ d. let never : true ≡ false = sym due ∙ d in cc))
now_out_of_memory m n a now r due is (inr h) q = absurd (decide_not_out_of_memory (logs_of m a.key) a.submission now (sym h.0 ∙ is))

pub now_decided : (m n : Shard) (a : plain.PlainOpenAttempt) (now : ℕ) (r : PlainReply) → plain.is_deciding (one_step_of_shard m) a ≡ true → (r ≡ refused E10 → ⊥) → DecidesOrOutOfMemory (logs_of m) a.key a.submission now r (logs_of n) → queues_of n ≡ queues_of m → AttemptCommits (one_step_of_shard m) a now (plain.reply_answer (machine.decided r)) (one_step_of_shard n) None
now_decided m n a now r due enough (inl h) q = absurd (enough h.0)
now_decided m n a now r due enough (inr h) q = (due, ap machine.decided h.0, stored_core m n a.key a.submission now h.1 q, refl)

-- ---- options

pub none_of : {A : Type 0} (o : Option A) → is_some o ≡ false → None ≡ o
none_of None h = refl
none_of (Some x) h = cc
