use Rattle.sdb_steps.proofs.RunLemmas.{legal_run}
use Rattle.sdb_steps.proofs.laws.runs_are_legal.Goals as goal

pub returns : goal.returns
returns c = legal_run
