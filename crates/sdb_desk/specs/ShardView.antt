-- The views of a shard: its state, and the parts of it.
use Rattle.std.specs.Prelude.{ℕ, List, Option}
use Rattle.sdb_oplog.specs.Keys.{PlainKey, Logs, plain_key}
use Rattle.sdb_oplog.specs.Plain.{PlainEntry}
use Rattle.sdb_oplog.specs.declared.keys.Key.{Key}
use Rattle.sdb_snapcache.specs.CacheModel.{Snapshot}
use Rattle.sdb_subscribe.specs.Queue.{PlainQueues}
use Rattle.sdb_subscribe.specs.Ring.{RingedQueue, ring_at}
use Rattle.sdb_desk.specs.DocumentModel.{PlainDocument}
use Rattle.sdb_desk.specs.MapModel.{value_at_key}
use Rattle.sdb_desk.specs.Machine.{QueuesByKey, Machine}
use Rattle.sdb_desk.specs.ShardState.{ShardState, CachesByKey, plain_queues, machine_of_state, state_of_slots}
use Rattle.sdb_desk.specs.SlotModel.{PlainSlot, empty_slot}
use Rattle.sdb_desk.specs.declared.shard.Shard.{Shard}

-- the slot of each key
abbrev pub slots_of : Shard → PlainKey → PlainSlot
slots_of m = value_at_key empty_slot m.slots.entries

abbrev pub state_of : Shard → ShardState
state_of m = state_of_slots (slots_of m)

-- the document of each key, empty by default
abbrev pub documents_of : Shard → PlainKey → PlainDocument
documents_of m k = (slots_of m k).document

abbrev pub logs_of : Shard → Logs
logs_of m = (state_of m).logs

-- the log of this key
abbrev pub log_at : Shard → Key → List PlainEntry
log_at m key = logs_of m (plain_key key)

abbrev pub caches_of : Shard → CachesByKey
caches_of m = (state_of m).caches

abbrev pub queues_of : Shard → QueuesByKey
queues_of m = plain_queues (state_of m)

-- the cached snapshots of this key
abbrev pub cache_at : Shard → Key → List Snapshot
cache_at m key = caches_of m (plain_key key)

-- the queues of this key
abbrev pub queues_at : Shard → Key → PlainQueues
queues_at m key = queues_of m (plain_key key)

-- the open queues of this key with their ring buffers, by number
abbrev pub open_queues_at : Shard → Key → List (ℕ × RingedQueue)
open_queues_at m key = ((state_of m).queues (plain_key key)).queues

-- the ring buffer of this key's queue of this number
abbrev pub ring_of : Shard → Key → ℕ → Option (List PlainEntry)
ring_of m key n = ring_at n (open_queues_at m key)

abbrev pub machine_of : Shard → Machine
machine_of m = machine_of_state (state_of m)
