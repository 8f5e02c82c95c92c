-- The state of a shard: the log, the cached snapshots and the queues of each key.
use Rattle.std.specs.Prelude.{ℕ, List, []}
use Rattle.sdb_oplog.specs.Keys.{PlainKey, Logs, no_logs, with_value_at_key}
use Rattle.sdb_snapcache.specs.CacheModel.{Snapshot}
use Rattle.sdb_snapcache.specs.SnapInvariant.{AreSnapsOf}
use Rattle.sdb_subscribe.specs.Ring.{RingedQueue, RingedQueues, without_rings}
use Rattle.sdb_desk.specs.Machine.{QueuesByKey, Machine}
use Rattle.sdb_desk.specs.SlotModel.{PlainSlot}

-- the cached snapshots of each key, most recently used first
abbrev pub CachesByKey : Type 0
CachesByKey = PlainKey → List Snapshot

-- each cached snapshot is the document at its version of its key's log
abbrev pub AreCachesOf : Logs → CachesByKey → Type 0
AreCachesOf logs caches = (k : PlainKey) → AreSnapsOf (logs k) (caches k)

-- by key: the log, the cached snapshots, and the next queue number with the open queues and their ring buffers
pub record ShardState : Type 0 where
  pub logs : Logs
  pub caches : CachesByKey
  pub queues : PlainKey → RingedQueues

-- the state without entries and queues
abbrev pub empty_state : ShardState
empty_state = record { logs = no_logs; caches = λ k. []; queues = λ k. record { next = 0; queues = [] } }

abbrev pub with_cache : ShardState → PlainKey → List Snapshot → ShardState
with_cache s k cache = record { logs = s.logs; caches = with_value_at_key s.caches k cache; queues = s.queues }

abbrev pub with_ringed_queues : ShardState → PlainKey → RingedQueues → ShardState
with_ringed_queues s k q = record { logs = s.logs; caches = s.caches; queues = with_value_at_key s.queues k q }

-- with other open queues of a key, and its next queue number unchanged
abbrev pub with_open_queues : ShardState → PlainKey → List (ℕ × RingedQueue) → ShardState
with_open_queues s k qs = with_ringed_queues s k (record { next = (s.queues k).next; queues = qs })

-- the queues of each key, without their ring buffers
abbrev pub plain_queues : ShardState → QueuesByKey
plain_queues s k = without_rings (s.queues k)

-- the machine: logs and queues
abbrev pub machine_of_state : ShardState → Machine
machine_of_state s = record { logs = s.logs; queues = plain_queues s }

-- the state of these slots
abbrev pub state_of_slots : (PlainKey → PlainSlot) → ShardState
state_of_slots slots =
    record { logs = λ k. (slots k).document.log; caches = λ k. (slots k).document.cache; queues = λ k. (slots k).queues }
