use Rattle.sdb_client_model.proofs.ClientRuns.{none_refused}
use Rattle.sdb_client_model.proofs.laws.no_edit_is_refused.Goals as goal

pub returns : goal.returns
returns c = none_refused
