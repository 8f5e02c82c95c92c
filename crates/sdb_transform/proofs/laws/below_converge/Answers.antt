use Rattle.sdb_transform.proofs.ConvergenceLemmas.{under_meet}
use Rattle.sdb_transform.proofs.laws.below_converge.Goals as goal

pub returns : goal.returns
returns c = under_meet
