use Rattle.sdb_client_model.proofs.MessageRuns.{message_runs_are_client_runs, message_edits_are_stored, message_clients_converge}
use Rattle.sdb_client_model.proofs.laws.message_runs_are_client_runs.Goals as goal

pub returns-clause-runs : goal.returns-clause-runs
returns-clause-runs c = message_runs_are_client_runs

pub returns-clause-edits : goal.returns-clause-edits
returns-clause-edits c = message_edits_are_stored

pub returns-clause-converge : goal.returns-clause-converge
returns-clause-converge c = message_clients_converge
