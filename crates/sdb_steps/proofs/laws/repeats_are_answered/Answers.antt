use Rattle.sdb_steps.proofs.MadeLemmas.{repeats_all}
use Rattle.sdb_steps.proofs.laws.repeats_are_answered.Goals as goal

pub returns : goal.returns
returns c = repeats_all
