use Rattle.sdb_value.proofs.DisjointLemmas.{places_apart}
use Rattle.sdb_value.proofs.laws.disjoint_paths_commute.Goals as goal

pub returns : goal.returns
returns c = places_apart
