use Rattle.std.proofs.Common.{◌≤◌, [], ◌∷◌, length}
use Rattle.sdb_transform.specs.Cross.{CrossResult}
use Rattle.sdb_transform.specs.CrossStack.{from_top, StateInvariantWith, step_bound_with}
use Rattle.sdb_transform.specs.CrossMachine.{RightChange}
use Rattle.sdb_transform.proofs.cross_stack.CrossState.transform_next.Given as goal

abbrev pub invariant-loop-left : goal.invariant-loop-left
invariant-loop-left l = record {
  keeps : (goal : CrossResult) → StateInvariantWith (RightChange l.fn.right ∷ []) goal l.fn.self → StateInvariantWith (RightChange l.right ∷ []) goal l.self;
  falls : step_bound_with (RightChange l.right ∷ []) l.self ≤ step_bound_with (RightChange l.fn.right ∷ []) l.fn.self;
}

abbrev pub decreases-loop-left : goal.decreases-loop-left
decreases-loop-left l = length (from_top l.self.left.items)
