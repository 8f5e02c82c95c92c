use Rattle.sdb_transform.proofs.OperationLemmas.{all_operations_converge, orders_agree}
use Rattle.sdb_transform.proofs.laws.operations_converge.Goals as goal

pub returns-clause-converge : goal.returns-clause-converge
returns-clause-converge c = all_operations_converge

pub returns-clause-agree : goal.returns-clause-agree
returns-clause-agree c = orders_agree
