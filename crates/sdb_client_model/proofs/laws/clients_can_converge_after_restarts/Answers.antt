use Rattle.sdb_client_model.proofs.SmallSavingLemmas.{small_saving_runs_are_small_runs, no_submission_is_refused_with_file, next_entries_are_processed_with_file, clients_can_converge_with_file}
use Rattle.sdb_client_model.proofs.laws.clients_can_converge_after_restarts.Goals as goal

pub returns-clause-small : goal.returns-clause-small
returns-clause-small c = small_saving_runs_are_small_runs

pub returns-clause-submissions : goal.returns-clause-submissions
returns-clause-submissions c = no_submission_is_refused_with_file

pub returns-clause-entries : goal.returns-clause-entries
returns-clause-entries c = next_entries_are_processed_with_file

pub returns-clause-converge : goal.returns-clause-converge
returns-clause-converge c = clients_can_converge_with_file
