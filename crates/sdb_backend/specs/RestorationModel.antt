-- The shards of a backend that is being restored.
use Rattle.std.specs.Prelude.{◌≡◌, ◌≢◌, ℕ, slice_get, Some, None}
use Rattle.sdb_oplog.specs.Decide.{PlainReply}
use Rattle.sdb_oplog.specs.Keys.{PlainKey, Logs, shard_of}
use Rattle.sdb_oplog.specs.Plain.{PlainSubmission}
use Rattle.sdb_desk.specs.ShardState.{empty_state}
use Rattle.sdb_desk.specs.ShardView.{state_of, machine_of}
use Rattle.sdb_desk.specs.StateChanges.{StateAfterDecision}
use Rattle.sdb_backend.specs.AuditModel.{logs_of_shards}
use Rattle.sdb_backend.specs.HistoryOrder.{share_of, empty_share}
use Rattle.sdb_backend.specs.PassModel.{next_pass_number, IsHostOfBackend, HostHasSeenShard, HostHasSeenLogs}
use Rattle.sdb_backend.specs.UnsavedEntries.{unsaved_of}
use Rattle.sdb_backend.specs.declared.backend.Backend.{Backend}
use Rattle.sdb_backend.specs.declared.pass.Host.{Host}
use Rattle.sdb_backend.specs.declared.restoration.Restoration.{Restoration}
use Rattle.sdb_backend.specs.declared.shard_value.Held.{Held}

-- the restoration's shard of this number
abbrev pub HasRestoredShard : Restoration → ℕ → Held → Type 0
HasRestoredShard r i h = slice_get r.shards.items i ≡ Some h

-- the log of each key, in its own shard
abbrev pub restored_logs : Restoration → Logs
restored_logs r = logs_of_shards r.shards.items

-- no shard has entries or queues, and none lists its entries
abbrev pub IsEmptyRestoration : Restoration → Type 0
IsEmptyRestoration r =
    (i : ℕ) (h : Held) → HasRestoredShard r i h → (state_of h.shard ≡ empty_state) × (unsaved_of h ≡ None)

-- the submission is decided in the shard of its key, and the other shards are unchanged
pub record RestoresSubmission (k : PlainKey) (s : PlainSubmission) (now : ℕ) (r : PlainReply) (old new : Restoration) : Type 0 where
  pub before : Held
  pub after : Held
  pub was : HasRestoredShard old (shard_of k) before
  pub is : HasRestoredShard new (shard_of k) after
  pub decides : StateAfterDecision k s now r (state_of before.shard) (state_of after.shard)
  pub list_unchanged : unsaved_of after ≡ unsaved_of before
  pub others_unchanged : (i : ℕ) → i ≢ shard_of k → slice_get new.shards.items i ≡ slice_get old.shards.items i

-- nothing is stored under this number
abbrev pub HasNoShare : ℕ → Restoration → Type 0
HasNoShare n r = (i : ℕ) (h : Held) → HasRestoredShard r i h → share_of n (machine_of h.shard) ≡ empty_share

-- each shard has the same share of this number
abbrev pub HasSameShare : ℕ → Restoration → Restoration → Type 0
HasSameShare n old new =
    (i : ℕ) (h : Held) → HasRestoredShard new i h
    → (g : Held) × HasRestoredShard old i g × (share_of n (machine_of g.shard) ≡ share_of n (machine_of h.shard))

-- the host has observed each restored shard
abbrev pub HasSeenRestored : Host → Restoration → Type 0
HasSeenRestored h r = (i : ℕ) (x : Held) → HasRestoredShard r i x → HostHasSeenShard h i x

-- the host of the restored backend has this next number, and has observed each restored shard and log
pub record IsRestoredBackend {R : Type 0} (r : Restoration) (next : ℕ) (b : Backend R) (h : Host) : Type 0 where
  pub host : IsHostOfBackend h b
  pub has_next : next_pass_number h ≡ next
  pub seen : HasSeenRestored h r
  pub logs : HostHasSeenLogs h (restored_logs r)
