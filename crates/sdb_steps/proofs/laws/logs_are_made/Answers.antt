use Rattle.sdb_steps.proofs.GrowthLemmas.{made_all}
use Rattle.sdb_steps.proofs.laws.logs_are_made.Goals as goal

pub returns : goal.returns
returns c = made_all
