use Rattle.sdb_value.proofs.DisjointLemmas.{texts_same, steps_same}
use Rattle.sdb_value.proofs.laws.equality_is_exact.Goals as goal

pub returns-clause-texts : goal.returns-clause-texts
returns-clause-texts c = texts_same

pub returns-clause-steps : goal.returns-clause-steps
returns-clause-steps c = steps_same
