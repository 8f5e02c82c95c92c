use Rattle.sdb_transform.proofs.CrossLemmas.{cross_column}
use Rattle.sdb_transform.proofs.WeightLemmas.{transform_is_weighted}
use Rattle.sdb_transform.proofs.laws.crosses_in_sequence.Goals as goal

pub returns : goal.returns
returns c = cross_column transform_is_weighted
