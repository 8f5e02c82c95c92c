use Rattle.sdb_transform.proofs.WeightLemmas.{few_pairs, no_side_gains}
use Rattle.sdb_transform.proofs.laws.pairs_within_product.Goals as goal

pub returns-clause-bound : goal.returns-clause-bound
returns-clause-bound c = few_pairs

pub returns-clause-weights : goal.returns-clause-weights
returns-clause-weights c = no_side_gains
