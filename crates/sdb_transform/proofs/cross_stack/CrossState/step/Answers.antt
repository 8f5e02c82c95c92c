use Rattle.std.proofs.Common.{ap}
use Rattle.sdb_transform.specs.CrossStack.{work_item_of}
use Rattle.sdb_transform.proofs.CrossRun.{on_ok_then, waits_falls}
use Rattle.sdb_transform.proofs.cross_stack.CrossState.step.Goals as goal

pub returns-in-LeftFrame-clause-bound_decreases : goal.returns-in-LeftFrame-clause-bound_decreases
returns-in-LeftFrame-clause-bound_decreases c =
    on_ok_then c.push_transformed.result c.push_transformed.ensures.ok (λ e. waits_falls c.args.next _ _ _ _ (ap work_item_of c.in-LeftFrame.is) e)
