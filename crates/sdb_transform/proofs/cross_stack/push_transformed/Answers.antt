use Rattle.std.proofs.Common.{◌∙◌, ap}
use Rattle.sdb_transform.proofs.StackLemmas.{top_push}
use Rattle.sdb_transform.specs.CrossStack.{from_top}
use Rattle.sdb_transform.proofs.cross_stack.push_transformed.Goals as goal

pub returns-in_ok-push-in-One-clause-ok : goal.returns-in_ok-push-in-One-clause-ok
returns-in_ok-push-in-One-clause-ok c = rw c.in-One.is (ap from_top c.in_ok-push-in-One.ensures.items ∙ top_push _ _)
