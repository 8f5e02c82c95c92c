use Rattle.std.proofs.Common.{ℕ, ◌≤◌, List, length, Option, Some, None, arith}
use Rattle.sdb_oplog.specs.Keys.{plain_key}
use Rattle.sdb_oplog.specs.laws.LogLaws.{version_at_within}
use Rattle.sdb_oplog.specs.Plain.{PlainEntry}
use Rattle.sdb_desk.specs.Machine.{version_at_moment}
use Rattle.sdb_desk.specs.ShardView.{logs_of}
use Rattle.sdb_desk.proofs.shard.Shard.snapshot_at_time.Goals as goal

within : (log : List PlainEntry) (t : Option ℕ) → version_at_moment log t ≤ length log
within log None = omega arith
within log (Some m) = version_at_within log m

pub snapshot_of-requires : goal.snapshot_of-requires
snapshot_of-requires c =
    let w = within (logs_of c.args.self.now (plain_key c.args.key.now)) c.args.moment in
    omega (arith, c.version_at-version.ensures, w)
