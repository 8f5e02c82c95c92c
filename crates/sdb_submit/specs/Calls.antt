-- The calls of a desk and their answers, as plain data.
use Rattle.std.specs.Prelude.{◌≡◌, ℕ, true, List, [], length, Option, Some, None, unwrap_or, Result, Ok, Err, Vec}
use Rattle.std.specs.declared.alloc.AllocError.{AllocError}
use Rattle.std.specs.declared.alloc.Global.{Global}
use Rattle.sdb_oplog.specs.Plain.{PlainEntry, PlainSubmission}
use Rattle.sdb_oplog.specs.Decide.{PlainReply}
use Rattle.sdb_oplog.specs.Keys.{PlainKey, Logs, with_value_at_key}
use Rattle.sdb_oplog.specs.declared.codes.Code.{Code}
use Rattle.sdb_subscribe.specs.Queue.{queue_at, is_open_by}
use Rattle.sdb_desk.specs.Machine.{PlainLook, PlainAttempt, PlainOutcome, decided, moved, PlainFetchResult, PlainSubscribeResult, Machine, IsUnchanged, look_at, look_allocates, is_nonempty, read_has_document, read_has_version, fetch_result, operations_from, operations_between, snapshot_at, version_at_moment, fetch_at_moment, with_queues, close_queue, CommitsOrOutOfMemory, DecidesOrOutOfMemory, ReadOrOutOfMemory, SubscribesOrOutOfMemory, TakesOrOutOfMemory}
use Rattle.sdb_desk.specs.Reads.{CacheAfterRead}
use Rattle.sdb_desk.specs.ShardState.{CachesByKey}
use Rattle.sdb_desk.specs.View.{plain_look}
use Rattle.sdb_desk.specs.declared.work.Look.{Look}

pub data PlainCall : Type 0 where
  look : PlainSubmission → PlainCall
  -- at a moment
  commit : PlainAttempt → ℕ → PlainCall
  commit_now : PlainSubmission → ℕ → PlainCall
  -- the current version
  current_version : PlainCall
  fetch : PlainCall
  -- the entries from a version on
  ops_from : ℕ → PlainCall
  -- the entries from a version on, before another one
  ops_between : ℕ → ℕ → PlainCall
  -- at a version, or at the current one
  snapshot : Option ℕ → PlainCall
  -- at a moment, or at the current version
  snapshot_at_time : Option ℕ → PlainCall
  -- the snapshot cache is emptied
  forget : PlainCall
  -- a queue from a version on, or from the current one
  subscribe : Option ℕ → PlainCall
  -- the next entries of the queue of this number, up to a limit
  take_next : ℕ → ℕ → PlainCall
  -- the queue of this number is closed
  unsubscribe : ℕ → PlainCall

-- the answer type of each call; `None` for a look, a take and a listing between versions means that an allocation
-- failed
abbrev pub CallAnswer : PlainCall → Type 0
CallAnswer (look s) = Option PlainLook
CallAnswer (commit a now) = PlainOutcome
CallAnswer (commit_now s now) = PlainReply
CallAnswer current_version = ℕ
CallAnswer fetch = Result PlainFetchResult Code
CallAnswer (ops_from v) = Result (List PlainEntry) Code
CallAnswer (ops_between v w) = Option (List PlainEntry)
CallAnswer (snapshot v) = Result PlainFetchResult Code
CallAnswer (snapshot_at_time t) = Result PlainFetchResult Code
CallAnswer forget = Unit {0}
CallAnswer (subscribe v) = Result PlainSubscribeResult Code
CallAnswer (take_next n max) = Option (Option (List PlainEntry))
CallAnswer (unsubscribe n) = Unit {0}

abbrev pub look_view : Result Look AllocError → Option PlainLook
look_view (Ok l) = Some (plain_look l)
look_view (Err e) = None

abbrev pub copied_entries_view : Result (Vec PlainEntry Global) AllocError → Option (List PlainEntry)
copied_entries_view (Ok v) = Some v.items
copied_entries_view (Err e) = None

-- the new look of a commit that found a longer log
abbrev pub OnMoved : PlainOutcome → (PlainLook → Type 0) → Type 0
OnMoved (decided r) P = Unit {0}
OnMoved (moved l) P = P l

-- a look is one at the current log, or its allocation failed
abbrev pub LooksOrOutOfMemory : List PlainEntry → PlainSubmission → Option PlainLook → Type 0
LooksOrOutOfMemory log s None = look_allocates log s ≡ true
LooksOrOutOfMemory log s (Some l) = l ≡ look_at log s

-- entries are copied, or the allocation failed
abbrev pub CopiesOrOutOfMemory : List PlainEntry → Option (List PlainEntry) → Type 0
CopiesOrOutOfMemory es None = is_nonempty es ≡ true
CopiesOrOutOfMemory es (Some r) = r ≡ es

-- one call of the machine under the caller's number; only a decision changes a log, and only a queue call changes the
-- key's queues
abbrev pub MachineStep : ℕ → Machine → PlainKey → (c : PlainCall) → CallAnswer c → Machine → Type 0
MachineStep by m k (look s) o new = LooksOrOutOfMemory (m.logs k) s o × IsUnchanged m new
MachineStep by m k (commit a now) o new = CommitsOrOutOfMemory m.logs k a now o new.logs × (new.queues ≡ m.queues)
MachineStep by m k (commit_now s now) r new = DecidesOrOutOfMemory m.logs k s now r new.logs × (new.queues ≡ m.queues)
MachineStep by m k current_version v new = (v ≡ length (m.logs k)) × IsUnchanged m new
MachineStep by m k fetch r new = ReadOrOutOfMemory read_has_document r (Ok (fetch_result (m.logs k))) × IsUnchanged m new
MachineStep by m k (ops_from v) r new = ReadOrOutOfMemory is_nonempty r (operations_from (m.logs k) v) × IsUnchanged m new
MachineStep by m k (ops_between v w) r new = CopiesOrOutOfMemory (operations_between (m.logs k) v w) r × IsUnchanged m new
MachineStep by m k (snapshot v) r new = ReadOrOutOfMemory read_has_version r (snapshot_at (m.logs k) v) × IsUnchanged m new
MachineStep by m k (snapshot_at_time t) r new = ReadOrOutOfMemory read_has_version r (Ok (fetch_at_moment (m.logs k) t)) × IsUnchanged m new
MachineStep by m k forget u new = IsUnchanged m new
MachineStep by m k (subscribe v) r new =
    SubscribesOrOutOfMemory (m.logs k) by v (m.queues k) r (new.queues k)
    × (new.queues ≡ with_queues m.queues k (new.queues k)) × (new.logs ≡ m.logs)
MachineStep by m k (take_next n max) r new =
    TakesOrOutOfMemory (m.logs k) by n max (m.queues k) r (new.queues k)
    × (new.queues ≡ with_queues m.queues k (new.queues k)) × (new.logs ≡ m.logs)
MachineStep by m k (unsubscribe n) u new =
    (new.queues ≡ with_queues m.queues k (close_queue by n (m.queues k)))
    × (is_open_by by n (m.queues k).queues ≡ true → queue_at n (new.queues k).queues ≡ None) × (new.logs ≡ m.logs)

-- ---- snapshot caches

-- a read at a version, with this result, uses and changes the cache of its key alone
abbrev pub CachesAfterRead : PlainKey → Logs → ℕ → Result PlainFetchResult Code → CachesByKey → CachesByKey → Type 0
CachesAfterRead k logs v r old new = CacheAfterRead (logs k) v r (old k) (new k) × (new ≡ with_value_at_key old k (new k))

-- the caches after a call of a key with this answer, and with these logs before it; only a read at a version and `forget`
-- change one
abbrev pub CachesAfterCall : PlainKey → Logs → (c : PlainCall) → CallAnswer c → CachesByKey → CachesByKey → Type 0
CachesAfterCall k logs (look s) o old new = new ≡ old
CachesAfterCall k logs (commit a now) o old new = new ≡ old
CachesAfterCall k logs (commit_now s now) r old new = new ≡ old
CachesAfterCall k logs current_version v old new = new ≡ old
CachesAfterCall k logs fetch r old new = new ≡ old
CachesAfterCall k logs (ops_from v) r old new = new ≡ old
CachesAfterCall k logs (ops_between v w) r old new = new ≡ old
CachesAfterCall k logs (snapshot v) r old new = CachesAfterRead k logs (unwrap_or v (length (logs k))) r old new
CachesAfterCall k logs (snapshot_at_time t) r old new = CachesAfterRead k logs (version_at_moment (logs k) t) r old new
CachesAfterCall k logs forget u old new = new ≡ with_value_at_key old k []
CachesAfterCall k logs (subscribe v) r old new = new ≡ old
CachesAfterCall k logs (take_next n max) r old new = new ≡ old
CachesAfterCall k logs (unsubscribe n) u old new = new ≡ old
