use Rattle.sdb_steps.proofs.TryLemmas.{tries_below_nine}
use Rattle.sdb_steps.proofs.laws.tries_stay_below_nine.Goals as goal

pub returns : goal.returns
returns c = tries_below_nine
