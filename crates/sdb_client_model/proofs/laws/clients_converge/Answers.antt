use Rattle.sdb_client_model.proofs.ClientRuns.{clients_converge, clients_agree, runs_are_consistent}
use Rattle.sdb_client_model.proofs.laws.clients_converge.Goals as goal

pub returns-clause-converge : goal.returns-clause-converge
returns-clause-converge c = clients_converge

pub returns-clause-agree : goal.returns-clause-agree
returns-clause-agree c = clients_agree

pub returns-clause-invariant : goal.returns-clause-invariant
returns-clause-invariant c = runs_are_consistent
