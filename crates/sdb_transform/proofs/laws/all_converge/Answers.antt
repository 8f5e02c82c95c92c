use Rattle.sdb_transform.proofs.ConvergenceLemmas.{all_meet}
use Rattle.sdb_transform.proofs.laws.all_converge.Goals as goal

pub returns : goal.returns
returns c = all_meet
