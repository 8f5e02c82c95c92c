-- The machine that executes each submission atomically: looks, commits, reads and queues.
use Rattle.std.specs.Prelude.{◌≡◌, ◌≢◌, ℕ, List, [], ◌∷◌, ◌++◌, Bool, true, false, ◌||◌, length, take, drop, if◌then◌else◌, nat_eq, nat_lt, Option, Some, None, unwrap_or, Result, Ok, Err, ◌⊎◌}
use Rattle.std.specs.Option.{is_some, option_map_or}
use Rattle.std.specs.Result.{is_ok, is_err, result_ok}
use Rattle.sdb_value.specs.Value.{Value}
use Rattle.sdb_oplog.specs.Plain.{PlainEntry, PlainSubmission}
use Rattle.sdb_oplog.specs.Refusal.{result_and_then}
use Rattle.sdb_oplog.specs.Rebase.{rebase, rebase_allocates}
use Rattle.sdb_oplog.specs.Decide.{PlainReply, stored, repeated, refused, decide, missed_entries, apply_rebased_allocates, decide_allocates}
use Rattle.sdb_oplog.specs.Keys.{PlainKey, Logs, with_value_at_key, with_log}
use Rattle.sdb_oplog.specs.Moments.{version_at}
use Rattle.sdb_subscribe.specs.Queue.{PlainQueues, open_queue, take_result_by, queues_after_take_by, remove_queue_by}
use Rattle.sdb_oplog.specs.Snap.{apply_content, document_of, stored_at}
use Rattle.sdb_oplog.specs.declared.codes.Code.{Code}
use Rattle.sdb_oplog.specs.declared.codes.Code.TheVariants.{E4, E10, E11}

abbrev pub is_nonempty : List PlainEntry → Bool
is_nonempty [] = false
is_nonempty (e ∷ es) = true

pub record PlainLook : Type 0 where
  pub version : ℕ
  pub repeat : Option ℕ
  pub missed : List PlainEntry
  pub snapshot : Option Value

pub record PlainAttempt : Type 0 where
  pub submission : PlainSubmission
  pub look : PlainLook

pub data PlainOutcome : Type 0 where
  decided : PlainReply → PlainOutcome
  moved : PlainLook → PlainOutcome

-- a version and the document at it
pub record PlainFetchResult : Type 0 where
  pub version : ℕ
  pub snapshot : Option Value

-- a look at a log: its length, the version of a duplicate, the missed entries and the document
abbrev pub look_at : List PlainEntry → PlainSubmission → PlainLook
look_at log s =
    record {
      version = length log;
      repeat = stored_at s.src s.seq log;
      missed = missed_entries log s;
      snapshot = document_of log;
    }

-- a look without its first missed entries
abbrev pub look_after : ℕ → PlainLook → PlainLook
look_after known l = record { version = l.version; repeat = l.repeat; missed = drop known l.missed; snapshot = l.snapshot }

-- a look with these entries before its missed entries
abbrev pub look_before : List PlainEntry → PlainLook → PlainLook
look_before first l = record { version = l.version; repeat = l.repeat; missed = first ++ l.missed; snapshot = l.snapshot }

-- a look allocates for missed entries and for a document
abbrev pub look_allocates : List PlainEntry → PlainSubmission → Bool
look_allocates log s = is_nonempty (look_at log s).missed || is_some (look_at log s).snapshot

-- the content transformed against the look's missed entries and applied to its document
abbrev pub work_result : PlainAttempt → Result (Option Value) Code
work_result a = result_and_then (λ m. apply_content m a.look.snapshot) (rebase a.submission.content a.look.missed)

-- a work allocates to transform an edit against an edit, and to change a document
abbrev pub work_allocates : PlainAttempt → Bool
work_allocates a =
    rebase_allocates a.submission.content a.look.missed
    || apply_rebased_allocates (rebase a.submission.content a.look.missed) a.look.snapshot

-- the submission is decided at this moment, or an allocation failed and nothing changed
abbrev pub DecidesOrOutOfMemory : Logs → PlainKey → PlainSubmission → ℕ → PlainReply → Logs → Type 0
DecidesOrOutOfMemory logs k s now r new =
    ((r ≡ refused E10) × (new ≡ logs) × (decide_allocates (logs k) s ≡ true))
    ⊎ ((r ≡ (decide (logs k) s now).reply) × (new ≡ with_log logs k (decide (logs k) s now).log))

-- the work for this log has already found the refusal, by the rebase or by the document
abbrev pub IsRefusedByWork : List PlainEntry → PlainAttempt → Type 0
IsRefusedByWork log a =
    (a.look.missed ≡ missed_entries log a.submission) × (a.look.snapshot ≡ document_of log) × (is_err (work_result a) ≡ true)

-- a commit allocates for a new look and for a decision, except for a refusal that the work has found
abbrev pub CommitAllocates : List PlainEntry → PlainAttempt → Type 0
CommitAllocates log a =
    ((length log ≢ a.look.version) × (look_allocates log a.submission ≡ true))
    ⊎ ((length log ≡ a.look.version) × (decide_allocates log a.submission ≡ true) × (IsRefusedByWork log a → ⊥))

-- a commit decides at this moment if the log hasn't grown since the look; otherwise it returns a new look and changes
-- nothing
abbrev pub CommitsOrOutOfMemory : Logs → PlainKey → PlainAttempt → ℕ → PlainOutcome → Logs → Type 0
CommitsOrOutOfMemory logs k a now (decided r) new =
    ((r ≡ refused E10) × (new ≡ logs) × CommitAllocates (logs k) a)
    ⊎ ((length (logs k) ≡ a.look.version) × (r ≡ (decide (logs k) a.submission now).reply)
    × (new ≡ with_log logs k (decide (logs k) a.submission now).log))
CommitsOrOutOfMemory logs k a now (moved l) new = (length (logs k) ≢ a.look.version) × (l ≡ look_at (logs k) a.submission) × (new ≡ logs)

-- a commit leaves the work unchanged, except that a stored submission loses its look
abbrev pub WorkAfterCommit : PlainOutcome → PlainAttempt → PlainAttempt → Type 0
WorkAfterCommit (moved l) old new = new ≡ old
WorkAfterCommit (decided (stored v missed_entries)) old new = new.submission ≡ old.submission
WorkAfterCommit (decided (repeated v)) old new = new ≡ old
WorkAfterCommit (decided (refused code)) old new = new ≡ old

-- the current version and document
abbrev pub fetch_result : List PlainEntry → PlainFetchResult
fetch_result log = record { version = length log; snapshot = document_of log }

-- the entries from a version on, or E4 if it is above the length
abbrev pub operations_from : List PlainEntry → ℕ → Result (List PlainEntry) Code
operations_from log v = if nat_lt (length log) v then Err E4 else Ok (drop v log)

-- the entries from a version on, before another one
abbrev pub operations_between : List PlainEntry → ℕ → ℕ → List PlainEntry
operations_between log from to = drop from (take to log)

-- the document at a version, or the current one, or E4 if the version is above the length
abbrev pub snapshot_at : List PlainEntry → Option ℕ → Result PlainFetchResult Code
snapshot_at log v =
    if nat_lt (length log) (unwrap_or v (length log)) then Err E4
    else Ok (record { version = unwrap_or v (length log); snapshot = document_of (take (unwrap_or v (length log)) log) })

-- the version at a moment, or the current one
abbrev pub version_at_moment : List PlainEntry → Option ℕ → ℕ
version_at_moment log t = option_map_or (version_at log) t (length log)

-- the document at a moment, or the current one
abbrev pub fetch_at_moment : List PlainEntry → Option ℕ → PlainFetchResult
fetch_at_moment log t = record { version = version_at_moment log t; snapshot = document_of (take (version_at_moment log t) log) }

-- ---- queues

abbrev pub QueuesByKey : Type 0
QueuesByKey = PlainKey → PlainQueues

abbrev pub no_queues : PlainQueues
no_queues = record { next = 0; queues = [] }

abbrev pub with_queues : QueuesByKey → PlainKey → PlainQueues → QueuesByKey
with_queues = with_value_at_key

-- the machine: the log of each key, and its queues
pub record Machine : Type 0 where
  pub logs : Logs
  pub queues : QueuesByKey

-- logs and queues are unchanged
abbrev pub IsUnchanged : Machine → Machine → Type 0
IsUnchanged m new = (new.logs ≡ m.logs) × (new.queues ≡ m.queues)

-- the queue's number and start, and the current version and document
pub record PlainSubscribeResult : Type 0 where
  pub id : ℕ
  pub start : ℕ
  pub version : ℕ
  pub snapshot : Option Value

-- the answer to a subscribe, and the queues after it
pub record SubscribeStep : Type 0 where
  pub answer : Result PlainSubscribeResult Code
  pub queues : PlainQueues

-- a queue starts at the given version or the current one, or E4 if it is above the length
abbrev pub queue_start : List PlainEntry → Option ℕ → Result ℕ Code
queue_start log v = if nat_lt (length log) (unwrap_or v (length log)) then Err E4 else Ok (unwrap_or v (length log))

-- E11 if the key's queue numbers are used up
abbrev pub queue_start_or_full : List PlainEntry → Option ℕ → PlainQueues → Result ℕ Code
queue_start_or_full log v q =
    result_and_then (λ start. if nat_eq q.next 18446744073709551615 then Err E11 else Ok start) (queue_start log v)

abbrev pub subscribe_opened : List PlainEntry → ℕ → PlainQueues → Result PlainQueues Code → SubscribeStep
subscribe_opened log v q (Err code) = record { answer = Err code; queues = q }
subscribe_opened log v q (Ok new) =
    record {
      answer = Ok (record { id = q.next; start = v; version = length log; snapshot = document_of log });
      queues = new;
    }

abbrev pub subscribe_from_start : List PlainEntry → ℕ → PlainQueues → Result ℕ Code → SubscribeStep
subscribe_from_start log by q (Err code) = record { answer = Err code; queues = q }
subscribe_from_start log by q (Ok v) = subscribe_opened log v q (open_queue by v q)

abbrev pub subscribe_step : List PlainEntry → ℕ → Option ℕ → PlainQueues → SubscribeStep
subscribe_step log by v q = subscribe_from_start log by q (queue_start log v)

-- a subscribe opens a queue for a number, or its allocation failed and nothing changed
abbrev pub SubscribesOrOutOfMemory : List PlainEntry → ℕ → Option ℕ → PlainQueues → Result PlainSubscribeResult Code → PlainQueues → Type 0
SubscribesOrOutOfMemory log by v q r new =
    ((r ≡ Err E10) × (new ≡ q) × (is_ok (subscribe_step log by v q).answer ≡ true))
    ⊎ ((r ≡ (subscribe_step log by v q).answer) × (new ≡ (subscribe_step log by v q).queues))

-- a take returns the next entries of a queue and advances it, or its allocation failed (`None`) and nothing changed; a
-- queue is unknown to any number but its owner's
abbrev pub TakesOrOutOfMemory : List PlainEntry → ℕ → ℕ → ℕ → PlainQueues → Option (Option (List PlainEntry)) → PlainQueues → Type 0
TakesOrOutOfMemory log by n max q None new = (new ≡ q) × (is_nonempty (unwrap_or (take_result_by log by n max q.queues) []) ≡ true)
TakesOrOutOfMemory log by n max q (Some r) new =
    (r ≡ take_result_by log by n max q.queues) × (new ≡ record { next = q.next; queues = queues_after_take_by log by n max q.queues })

-- a queue is closed if it belongs to this number
abbrev pub close_queue : ℕ → ℕ → PlainQueues → PlainQueues
close_queue by n q = record { next = q.next; queues = remove_queue_by by n q.queues }

-- ---- reads

-- a read has this result, or an allocation failed in a read that allocates
abbrev pub ReadOrOutOfMemory : {A : Type 0} → (A → Bool) → Result A Code → Result A Code → Type 0
ReadOrOutOfMemory takes_memory r due = ((r ≡ Err E10) × (option_map_or takes_memory (result_ok due) false ≡ true)) ⊎ (r ≡ due)

-- the read copies a document
abbrev pub read_has_document : PlainFetchResult → Bool
read_has_document f = is_some f.snapshot

-- the read copies or replays a document at a version above 0
abbrev pub read_has_version : PlainFetchResult → Bool
read_has_version f = nat_lt 0 f.version
