use Rattle.sdb_steps.proofs.MadeLemmas.{once_all}
use Rattle.sdb_steps.proofs.laws.stored_once.Goals as goal

pub returns : goal.returns
returns c = once_all
