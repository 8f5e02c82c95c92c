-- Laws of a restored backend: a pass observes the logs that its host has observed.
use Rattle.std.proofs.Common.{◌≡◌, ◌+◌, ◌<◌, sum, subst, rules}
use Rattle.std.proofs.Math.Nat.{mod-lt}
use Rattle.sdb_oplog.specs.Keys.{PlainKey, Logs, shard_of}
use Rattle.sdb_desk.specs.ShardView.{logs_of}
use Rattle.sdb_striped_lock.specs.laws.SeatLaws.{root_has_seen_unique}
use Rattle.sdb_backend.specs.PassModel.{PassHasSeen, PassHasSeenShard, HostHasSeenLogs, HasSeenHostHistories}
use Rattle.sdb_backend.specs.declared.pass.Host.{Host}
use Rattle.sdb_backend.specs.declared.pass.Pass.{Pass}
use Rattle.sdb_backend.specs.declared.shard_value.Held.{Held}

-- the number of a key's shard
pub shard_below : (k : PlainKey) → shard_of k < 8
shard_below k = mod-lt (sum k.collection + sum k.id) (search rules)

-- a pass that has observed the host's histories has observed these logs
pub pass_sees_logs : (p : Pass) (h : Host) (logs : Logs) → HasSeenHostHistories p h → HostHasSeenLogs h logs
    → (k : PlainKey) → (x : Held) × PassHasSeen p k x × (logs_of x.shard k ≡ logs k)
pass_sees_logs p h logs saw has k =
    let x = has k in
    let y = saw (shard_of k) (shard_below k) in
    let one : y.0 ≡ x.0 = root_has_seen_unique h.seats (shard_of k) y.0 x.0 y.1 x.1 in
    (x.0, subst (PassHasSeenShard p (shard_of k)) one y.2, x.2)
