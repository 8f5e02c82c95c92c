use Rattle.sdb_transform.proofs.WeightLemmas.{never_rises}
use Rattle.sdb_transform.proofs.laws.weight_not_increased.Goals as goal

pub returns : goal.returns
returns c = never_rises
