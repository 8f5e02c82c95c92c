use Rattle.sdb_transform.proofs.ConvergenceLemmas.{apart_meet}
use Rattle.sdb_transform.proofs.laws.disjoint_converge.Goals as goal

pub returns : goal.returns
returns c = apart_meet
