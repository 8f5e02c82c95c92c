use Rattle.sdb_client_model.proofs.SavingRuns.{saving_runs_are_client_runs, edits_are_saved, saved_clients_converge}
use Rattle.sdb_client_model.proofs.laws.saving_runs_are_client_runs.Goals as goal

pub returns-clause-runs : goal.returns-clause-runs
returns-clause-runs c = saving_runs_are_client_runs

pub returns-clause-edits : goal.returns-clause-edits
returns-clause-edits c = edits_are_saved

pub returns-clause-converge : goal.returns-clause-converge
returns-clause-converge c = saved_clients_converge
