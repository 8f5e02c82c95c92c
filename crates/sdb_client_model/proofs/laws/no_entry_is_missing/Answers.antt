use Rattle.sdb_client_model.proofs.MessageCompleteRuns.{none_is_missing, connected_clients_process_all, connected_clients_converge}
use Rattle.sdb_client_model.proofs.MessageRuns.{received_are_of_log, messages_are_of_log}
use Rattle.sdb_client_model.proofs.laws.no_entry_is_missing.Goals as goal

pub returns-clause-missing : goal.returns-clause-missing
returns-clause-missing c = none_is_missing

pub returns-clause-received : goal.returns-clause-received
returns-clause-received c = received_are_of_log

pub returns-clause-messages : goal.returns-clause-messages
returns-clause-messages c = messages_are_of_log

pub returns-clause-processed : goal.returns-clause-processed
returns-clause-processed c = connected_clients_process_all

pub returns-clause-converge : goal.returns-clause-converge
returns-clause-converge c = connected_clients_converge
