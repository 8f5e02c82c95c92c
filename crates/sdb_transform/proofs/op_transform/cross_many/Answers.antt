use Rattle.std.proofs.Common.{◌∙◌, ap, refl}
use Rattle.sdb_transform.specs.CrossStack.{from_top, work_from_top}
use Rattle.sdb_transform.proofs.StackLemmas.{top_none, stack_none}
use Rattle.sdb_transform.proofs.CrossRun.{invariant_at_start, ends_few}
use Rattle.sdb_transform.proofs.op_transform.cross_many.Goals as goal

pub loop-next-init : goal.loop-next-init
loop-next-init c =
    invariant_at_start _ _ _ _ _ _ _ _ _ (ap from_top c.new.ensures.items ∙ top_none) c.in_ok-push_split.ensures.ok refl (ap work_from_top c.new-2.ensures.items ∙ stack_none) c.in_ok-push_right.ensures.ok refl c.new-3.ensures.items

pub returns-clause-bound : goal.returns-clause-bound
returns-clause-bound c = ends_few _ _ _ _ _ _ c.in_default.ensures c.loop-next.invariant
