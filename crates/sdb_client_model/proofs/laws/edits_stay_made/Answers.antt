use Rattle.sdb_client_model.proofs.ClientRuns.{clients_show_documents, edits_stay_made}
use Rattle.sdb_client_model.proofs.laws.edits_stay_made.Goals as goal

pub returns-clause-made : goal.returns-clause-made
returns-clause-made c = edits_stay_made

pub returns-clause-shown : goal.returns-clause-shown
returns-clause-shown c = clients_show_documents
