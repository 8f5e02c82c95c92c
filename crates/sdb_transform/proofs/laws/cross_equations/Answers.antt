use Rattle.sdb_transform.proofs.CrossLemmas.{cross_left_empty, cross_right_empty, cross_pair}
use Rattle.sdb_transform.proofs.WeightLemmas.{transform_is_weighted}
use Rattle.sdb_transform.proofs.laws.cross_equations.Goals as goal

pub returns-clause-left_empty : goal.returns-clause-left_empty
returns-clause-left_empty c = cross_left_empty transform_is_weighted

pub returns-clause-right_empty : goal.returns-clause-right_empty
returns-clause-right_empty c = cross_right_empty transform_is_weighted

pub returns-clause-pair : goal.returns-clause-pair
returns-clause-pair c = cross_pair transform_is_weighted
