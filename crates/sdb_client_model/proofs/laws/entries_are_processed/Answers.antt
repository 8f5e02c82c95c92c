use Rattle.sdb_client_model.proofs.ClientRuns.{entries_are_processed, none_is_stuck}
use Rattle.sdb_client_model.proofs.laws.entries_are_processed.Goals as goal

pub returns-clause-entries : goal.returns-clause-entries
returns-clause-entries c = entries_are_processed

pub returns-clause-none_stuck : goal.returns-clause-none_stuck
returns-clause-none_stuck c = none_is_stuck
