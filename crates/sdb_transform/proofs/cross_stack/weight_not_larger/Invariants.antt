use Rattle.std.proofs.Common.{◌<◌, ◌-◌}
use Rattle.sdb_transform.proofs.cross_stack.weight_not_larger.Given as goal

abbrev pub invariant-loop-limit : goal.invariant-loop-limit
invariant-loop-limit l = 0 < l.limit

abbrev pub decreases-loop-limit : goal.decreases-loop-limit
decreases-loop-limit l = 18446744073709551615 - l.limit
