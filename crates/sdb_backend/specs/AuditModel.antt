-- The contents of an audit.
use Rattle.std.specs.Prelude.{◌≡◌, ℕ, List, [], map, option_map, unwrap_or, slice_get, Some, Contains}
use Rattle.sdb_growlock.specs.LockRule.{ForEach}
use Rattle.sdb_oplog.specs.Keys.{Logs, shard_of}
use Rattle.sdb_desk.specs.ShardView.{logs_of, machine_of}
use Rattle.sdb_backend.specs.HistoryOrder.{Extends, share_of, empty_share}
use Rattle.sdb_backend.specs.PassModel.{pass_number, PassHasSeenShard}
use Rattle.sdb_backend.specs.declared.audit.Audit.{Audit}
use Rattle.sdb_backend.specs.declared.shard_value.Held.{Held}
use Rattle.sdb_backend.specs.declared.pass.Pass.{Pass}

-- the log of a key is the one in its own shard; a log of that key in another shard doesn't count
abbrev pub logs_of_shards : List Held → Logs
logs_of_shards shards k = unwrap_or (option_map (λ h. logs_of h.shard k) (slice_get shards (shard_of k))) []

abbrev pub audit_logs : Audit → Logs
audit_logs a = logs_of_shards a.shards.items

-- the audit's shard of this number
abbrev pub HasShard : Audit → ℕ → Held → Type 0
HasShard a i h = slice_get a.shards.items i ≡ Some h

-- the audit extends what each pass has observed, with exactly its share of it, and contains nothing under a number
-- without a pass
pub record ExtendsEveryPass (a : Audit) (passes : List Pass) : Type 0 where
  pub extends_seen : ForEach (λ p. (i : ℕ) (h x : Held) → HasShard a i h → PassHasSeenShard p i x
      → Extends (machine_of h.shard) (machine_of x.shard)
      × (share_of (pass_number p) (machine_of x.shard) ≡ share_of (pass_number p) (machine_of h.shard))) passes
  pub others : (n i : ℕ) (h : Held) → HasShard a i h → (Contains (map pass_number passes) n → ⊥)
      → share_of n (machine_of h.shard) ≡ empty_share
