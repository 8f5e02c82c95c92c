use Rattle.sdb_transform.proofs.ConvergenceLemmas.{objects_agree}
use Rattle.sdb_transform.proofs.laws.objects_converge.Goals as goal

pub returns : goal.returns
returns c = objects_agree
