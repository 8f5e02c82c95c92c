use Rattle.sdb_client_model.proofs.SavingRuns.{saved_entries_stay, sent_entries_stay, none_is_missing_with_file, clients_process_all_with_file, clients_converge_with_file}
use Rattle.sdb_client_model.proofs.laws.restarts_lose_nothing_sent.Goals as goal

pub returns-clause-saved : goal.returns-clause-saved
returns-clause-saved c = saved_entries_stay

pub returns-clause-sent : goal.returns-clause-sent
returns-clause-sent c = sent_entries_stay

pub returns-clause-missing : goal.returns-clause-missing
returns-clause-missing c = none_is_missing_with_file

pub returns-clause-processed : goal.returns-clause-processed
returns-clause-processed c = clients_process_all_with_file

pub returns-clause-converge : goal.returns-clause-converge
returns-clause-converge c = clients_converge_with_file
