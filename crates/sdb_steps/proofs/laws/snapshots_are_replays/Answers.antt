use Rattle.sdb_steps.proofs.MadeLemmas.{lives_all}
use Rattle.sdb_steps.proofs.laws.snapshots_are_replays.Goals as goal

pub returns : goal.returns
returns c = lives_all
