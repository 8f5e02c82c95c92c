use Rattle.sdb_steps.proofs.RunLemmas.{run_more}
use Rattle.sdb_steps.proofs.laws.runs_go_on.Goals as goal

pub returns : goal.returns
returns c = run_more
