use Rattle.sdb_steps.proofs.ReplayLemmas.{replays_all}
use Rattle.sdb_steps.proofs.laws.reads_are_replays.Goals as goal

pub returns : goal.returns
returns c = replays_all
