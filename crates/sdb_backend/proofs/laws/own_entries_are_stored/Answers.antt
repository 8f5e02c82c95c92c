use Rattle.sdb_backend.proofs.PassRunLemmas.{has_stored_calls}
use Rattle.sdb_backend.proofs.laws.own_entries_are_stored.Goals as goal

pub returns : goal.returns
returns c = λ k calls p q new answered. has_stored_calls k calls p q new answered
