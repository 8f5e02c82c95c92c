use Rattle.sdb_apply.proofs.ChangeLemmas.{changes_under}
use Rattle.sdb_apply.proofs.laws.changes_below_place.Goals as goal

pub returns : goal.returns
returns c = changes_under
