use Rattle.sdb_transform.proofs.ConvergenceLemmas.{texts_agree, numbers_agree}
use Rattle.sdb_transform.proofs.laws.texts_and_numbers_converge.Goals as goal

pub returns-clause-texts : goal.returns-clause-texts
returns-clause-texts c = texts_agree

pub returns-clause-numbers : goal.returns-clause-numbers
returns-clause-numbers c = numbers_agree
