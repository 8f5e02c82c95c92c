use Rattle.sdb_value.proofs.DisjointLemmas.{steps_apart}
use Rattle.sdb_value.proofs.laws.disjoint_steps_commute.Goals as goal

pub returns : goal.returns
returns c = steps_apart
