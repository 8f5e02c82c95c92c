use Rattle.sdb_transform.proofs.CrossingExistence.{crossing_of}
use Rattle.sdb_transform.proofs.laws.crossing_exists.Goals as goal

pub returns : goal.returns
returns c = crossing_of
