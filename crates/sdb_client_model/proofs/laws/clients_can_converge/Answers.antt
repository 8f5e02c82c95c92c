use Rattle.sdb_client_model.proofs.SmallMessageLemmas.{small_message_runs_are_small_runs}
use Rattle.sdb_client_model.proofs.SmallMessageSteps.{no_submission_is_refused, next_entries_are_processed}
use Rattle.sdb_client_model.proofs.MessageConvergence.{clients_can_converge}
use Rattle.sdb_client_model.proofs.laws.clients_can_converge.Goals as goal

pub returns-clause-small : goal.returns-clause-small
returns-clause-small c = small_message_runs_are_small_runs

pub returns-clause-submissions : goal.returns-clause-submissions
returns-clause-submissions c = no_submission_is_refused

pub returns-clause-entries : goal.returns-clause-entries
returns-clause-entries c = next_entries_are_processed

pub returns-clause-converge : goal.returns-clause-converge
returns-clause-converge c = clients_can_converge
