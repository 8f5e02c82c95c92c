use Rattle.std.proofs.Common.{◌∙◌, ap}
use Rattle.sdb_transform.proofs.StackLemmas.{stack_push}
use Rattle.sdb_transform.specs.CrossStack.{work_from_top}
use Rattle.sdb_transform.proofs.cross_stack.push_left.Goals as goal

pub returns-clause-ok : goal.returns-clause-ok
returns-clause-ok c = ap work_from_top c.in_ok-push.ensures.items ∙ stack_push _ _
