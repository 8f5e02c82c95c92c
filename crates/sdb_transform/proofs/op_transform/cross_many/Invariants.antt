use Rattle.std.proofs.Common.{[]}
use Rattle.sdb_transform.specs.Cross.{cross_ops}
use Rattle.sdb_transform.specs.CrossStack.{StateInvariantWith, step_bound_with}
use Rattle.sdb_transform.proofs.op_transform.cross_many.Given as goal

abbrev pub invariant-loop-next : goal.invariant-loop-next
invariant-loop-next l = StateInvariantWith [] (cross_ops l.fn.left.items l.fn.right.items) l.progress

abbrev pub decreases-loop-next : goal.decreases-loop-next
decreases-loop-next l = step_bound_with [] l.progress
