use Rattle.sdb_transform.proofs.ConvergenceLemmas.{lists_agree}
use Rattle.sdb_transform.proofs.laws.lists_converge.Goals as goal

pub returns : goal.returns
returns c = lists_agree
