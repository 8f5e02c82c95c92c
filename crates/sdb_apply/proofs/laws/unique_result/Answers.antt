use Rattle.sdb_apply.proofs.ChangeLemmas.{one_result}
use Rattle.sdb_apply.proofs.laws.unique_result.Goals as goal

pub returns : goal.returns
returns c = one_result
