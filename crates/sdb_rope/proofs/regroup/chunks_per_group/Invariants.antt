use Rattle.std.proofs.Common.{◌<◌, ◌-◌}
use Rattle.sdb_rope.proofs.regroup.chunks_per_group.Given as goal

abbrev pub invariant-loop-size : goal.invariant-loop-size
invariant-loop-size l = 0 < l.size

abbrev pub decreases-loop-size : goal.decreases-loop-size
decreases-loop-size l = 64 - l.size
