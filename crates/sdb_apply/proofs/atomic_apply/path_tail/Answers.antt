use Rattle.sdb_apply.proofs.BelowLemmas.{rest_within}
use Rattle.sdb_apply.proofs.atomic_apply.path_tail.Goals as goal

pub returns : goal.returns
returns c = rest_within c.args.path.now c.args.depth c.min-start.result c.min-start.ensures
