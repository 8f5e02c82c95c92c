use Rattle.sdb_steps.proofs.ContinuationLemmas.{continued_all}
use Rattle.sdb_steps.proofs.laws.takes_continue.Goals as goal

pub returns : goal.returns
returns c = continued_all
