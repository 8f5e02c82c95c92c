use Rattle.std.proofs.Common.{◌≡◌, ◌≤◌, ◌-◌, length, take, drop}
use Rattle.sdb_oplog.specs.Moments.{version_at}
use Rattle.sdb_oplog.proofs.log.Log.version_at.Given as goal

abbrev pub invariant-loop-low : goal.invariant-loop-low
invariant-loop-low l = record {
  ordered : l.low ≤ l.high;
  within : l.high ≤ length l.entries;
  counted : version_at (take l.low l.entries) l.moment ≡ l.low;
  rest : version_at (drop l.high l.entries) l.moment ≡ 0;
}

abbrev pub decreases-loop-low : goal.decreases-loop-low
decreases-loop-low l = l.high - l.low
