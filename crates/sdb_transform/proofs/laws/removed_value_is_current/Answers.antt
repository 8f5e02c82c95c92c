use Rattle.sdb_transform.proofs.ConvergeRemovals.{removal_stands}
use Rattle.sdb_transform.proofs.laws.removed_value_is_current.Goals as goal

pub returns : goal.returns
returns c = removal_stands
