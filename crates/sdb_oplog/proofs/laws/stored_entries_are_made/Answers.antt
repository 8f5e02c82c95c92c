use Rattle.sdb_oplog.proofs.MadeEntryLemmas.{entries_made, rebased_made_if_all_made}
use Rattle.sdb_oplog.proofs.laws.stored_entries_are_made.Goals as goal

pub returns-clause-entries : goal.returns-clause-entries
returns-clause-entries c = entries_made

pub returns-clause-rebased : goal.returns-clause-rebased
returns-clause-rebased c = rebased_made_if_all_made
