use Rattle.sdb_apply.proofs.ChangeLemmas.{changes_apart}
use Rattle.sdb_apply.proofs.laws.disjoint_changes_commute.Goals as goal

pub returns : goal.returns
returns c = changes_apart
