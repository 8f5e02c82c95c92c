use Rattle.std.proofs.Common.{◌≤◌, ◌-◌, length}
use Rattle.sdb_linefile.proofs.recovery.old_header.Given as goal

abbrev pub invariant-loop-at : goal.invariant-loop-at
invariant-loop-at l = l.at ≤ length l.log

abbrev pub decreases-loop-at : goal.decreases-loop-at
decreases-loop-at l = length l.log - l.at
