use Rattle.std.proofs.Common.{◌∙◌}
use Rattle.sdb_transform.proofs.StackLemmas.{top_reversed}
use Rattle.sdb_transform.proofs.cross_stack.stack_order.Goals as goal

pub returns : goal.returns
returns c = c.shrink_to_fit.ensures.items ∙ c.reverse.ensures.items ∙ top_reversed c.args.waiting.items
