use Rattle.sdb_client_model.proofs.StoredOnceLemmas.{all_edits_are_stored, none_stored_twice}
use Rattle.sdb_client_model.proofs.laws.edits_are_stored_once.Goals as goal

pub returns-clause-edits : goal.returns-clause-edits
returns-clause-edits c = all_edits_are_stored

pub returns-clause-entries : goal.returns-clause-entries
returns-clause-entries c = none_stored_twice
