use Rattle.sdb_steps.proofs.MadeLemmas.{resent_all}
use Rattle.sdb_steps.proofs.laws.resent.Goals as goal

pub returns : goal.returns
returns c = resent_all
