-- The effect of each call on the state of a shard.
use Rattle.std.specs.Prelude.{◌≡◌, ℕ, List, [], ◌∷◌, ◌++◌, length, true, unwrap_or, Option, Some, None, Result, Ok, Err}
use Rattle.sdb_value.specs.Value.{Value}
use Rattle.sdb_oplog.specs.Decide.{PlainReply, decide, stored, missed_entries}
use Rattle.sdb_oplog.specs.Keys.{PlainKey, with_log}
use Rattle.sdb_oplog.specs.Plain.{PlainEntry, PlainSubmission}
use Rattle.sdb_oplog.specs.declared.codes.Code.{Code}
use Rattle.sdb_snapcache.specs.CacheModel.{Snapshot}
use Rattle.sdb_subscribe.specs.Queue.{take_result_by}
use Rattle.sdb_subscribe.specs.Ring.{RingedQueue, without_rings, ArePushed, open_ringed_queue, ringed_queues_after_take_by}
use Rattle.sdb_desk.specs.DocumentModel.{DocumentAfterStore}
use Rattle.sdb_desk.specs.Machine.{PlainAttempt, PlainOutcome, PlainSubscribeResult, is_nonempty, CommitsOrOutOfMemory, DecidesOrOutOfMemory}
use Rattle.sdb_desk.specs.Reads.{CacheAfterRead, CacheAfterUse, CacheAfterOffer}
use Rattle.sdb_desk.specs.ShardState.{ShardState, with_cache, with_ringed_queues, with_open_queues, plain_queues}
use Rattle.sdb_desk.specs.SlotModel.{PlainSlot, slot_with_cache}

-- ---- reads

-- the cache of one key changes by this relation, and nothing else changes
abbrev pub OnlyCacheChanges : PlainKey → (List Snapshot → List Snapshot → Type 0) → ShardState → ShardState → Type 0
OnlyCacheChanges k C old new = C (old.caches k) (new.caches k) × (new ≡ with_cache old k (new.caches k))

-- likewise in the slot of a key
abbrev pub OnlySlotCacheChanges : (List Snapshot → List Snapshot → Type 0) → PlainSlot → PlainSlot → Type 0
OnlySlotCacheChanges C old new = C old.document.cache new.document.cache × (new ≡ slot_with_cache old new.document.cache)

-- a read at a version, with this result
abbrev pub StateAfterRead : {A E : Type 0} → PlainKey → ℕ → Result A E → ShardState → ShardState → Type 0
StateAfterRead k v r old new = OnlyCacheChanges k (CacheAfterRead (old.logs k) v r) old new

-- the nearest snapshot of a version is used
abbrev pub StateAfterUse : PlainKey → ℕ → ShardState → ShardState → Type 0
StateAfterUse k v old new = OnlyCacheChanges k (CacheAfterUse (old.logs k) v) old new

-- a document at a version is offered
abbrev pub StateAfterOffer : PlainKey → ℕ → Option Value → ShardState → ShardState → Type 0
StateAfterOffer k v d old new = OnlyCacheChanges k (CacheAfterOffer v d) old new

-- ---- commits

-- the ring buffers of a key are unchanged if its log is; each gets the entry that the log gains
pub record RingsAfterAppend (log new : List PlainEntry) (qs after : List (ℕ × RingedQueue)) : Type 0 where
  pub unchanged_if_log_unchanged : new ≡ log → after ≡ qs
  pub pushed_if_log_grows : (entry : PlainEntry) → new ≡ log ++ entry ∷ [] → ArePushed entry qs after

-- logs may change, and the ring buffers follow them; caches and queues don't change
pub record QueuesFollowLogs (old new : ShardState) : Type 0 where
  pub caches_unchanged : new.caches ≡ old.caches
  pub queues_unchanged : plain_queues new ≡ plain_queues old
  pub rings : (k : PlainKey) → RingsAfterAppend (old.logs k) (new.logs k) (old.queues k).queues (new.queues k).queues

-- a submission is stored
pub record StateAfterStore (k : PlainKey) (s : PlainSubmission) (now : ℕ) (old new : ShardState) : Type 0 where
  pub reply : (decide (old.logs k) s now).reply ≡ stored (length (old.logs k)) (missed_entries (old.logs k) s)
  pub logs : new.logs ≡ with_log old.logs k (decide (old.logs k) s now).log
  pub others : QueuesFollowLogs old new

-- likewise in the slot of a key
pub record SlotAfterStore (s : PlainSubmission) (now : ℕ) (old new : PlainSlot) : Type 0 where
  pub document : DocumentAfterStore s now old.document new.document
  pub queues_unchanged : without_rings new.queues ≡ without_rings old.queues
  pub rings : RingsAfterAppend old.document.log new.document.log old.queues.queues new.queues.queues

-- a work is committed at a moment, with this outcome
pub record StateAfterCommit (k : PlainKey) (a : PlainAttempt) (now : ℕ) (o : PlainOutcome) (old new : ShardState) : Type 0 where
  pub commits : CommitsOrOutOfMemory old.logs k a now o new.logs
  pub others : QueuesFollowLogs old new

-- a submission is decided at a moment, with this reply
pub record StateAfterDecision (k : PlainKey) (s : PlainSubmission) (now : ℕ) (r : PlainReply) (old new : ShardState) : Type 0 where
  pub decides : DecidesOrOutOfMemory old.logs k s now r new.logs
  pub others : QueuesFollowLogs old new

-- ---- queues

-- a subscribe opens a queue at the start that it returns; if it fails nothing changes
abbrev pub StateAfterSubscribe : PlainKey → ℕ → Result PlainSubscribeResult Code → ShardState → ShardState → Type 0
StateAfterSubscribe k by (Ok s) old new = new ≡ with_ringed_queues old k (open_ringed_queue by s.start (old.queues k))
StateAfterSubscribe k by (Err code) old new = new ≡ old

-- a take returns the next entries of a queue and advances it, or its allocation failed (`None`) and nothing changed; a
-- queue is unknown to any number but its owner's
abbrev pub StateAfterTake : PlainKey → ℕ → ℕ → ℕ → Option (Option (List PlainEntry)) → ShardState → ShardState → Type 0
StateAfterTake k by n max None old new =
    (is_nonempty (unwrap_or (take_result_by (old.logs k) by n max (plain_queues old k).queues) []) ≡ true) × (new ≡ old)
StateAfterTake k by n max (Some r) old new =
    (r ≡ take_result_by (old.logs k) by n max (plain_queues old k).queues)
    × (new ≡ with_open_queues old k (ringed_queues_after_take_by (old.logs k) by n max (old.queues k).queues))
