use Rattle.std.proofs.Common.{◌≡◌, [], ◌∷◌, length}
use Rattle.sdb_transform.specs.Cross.{transform_op}
use Rattle.sdb_transform.proofs.op_transform.transform_one_against_all.Given as goal

abbrev pub invariant-loop-other : goal.invariant-loop-other
invariant-loop-other l = transform_op l.fn.side (l.fn.component ∷ []) l.fn.others ≡ transform_op l.fn.side (l.current ∷ []) l.rest

abbrev pub decreases-loop-other : goal.decreases-loop-other
decreases-loop-other l = length l.rest
