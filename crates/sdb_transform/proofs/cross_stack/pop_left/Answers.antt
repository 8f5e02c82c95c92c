use Rattle.sdb_transform.proofs.StackLemmas.{pop_top}
use Rattle.sdb_transform.proofs.cross_stack.pop_left.Goals as goal

pub returns : goal.returns
returns c =
    pop_top c.args.waiting.now.items c.pop.new.self.items c.pop.result _ _ c.args.waiting.now.ok.0 c.pop.new.self.ok.0 c.pop.ensures.items c.pop.ensures.cases
