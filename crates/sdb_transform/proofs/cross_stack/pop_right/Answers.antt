use Rattle.sdb_transform.proofs.StackLemmas.{pop_stack}
use Rattle.sdb_transform.proofs.cross_stack.pop_right.Goals as goal

pub returns : goal.returns
returns c =
    pop_stack c.args.work.now.items c.pop.new.self.items c.pop.result _ _ c.args.work.now.ok.0 c.pop.ensures.items c.pop.ensures.cases
