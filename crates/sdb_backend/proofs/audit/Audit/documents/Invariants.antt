use Rattle.std.proofs.Common.{◌≡◌, ◌&&◌, nat_lt}
use Rattle.sdb_oplog.specs.Keys.{PlainKey, shard_of}
use Rattle.sdb_desk.specs.Machine.{is_nonempty}
use Rattle.sdb_backend.specs.AuditModel.{logs_of_shards}
use Rattle.sdb_backend.specs.GatheredKeys.{is_gathered}
use Rattle.sdb_backend.proofs.audit.Audit.documents.Given as goal

abbrev pub invariant-loop-number : goal.invariant-loop-number
invariant-loop-number l = (k : PlainKey) → is_gathered l.all k ≡ (nat_lt (shard_of k) l.number && is_nonempty (logs_of_shards l.self.shards.items k))
