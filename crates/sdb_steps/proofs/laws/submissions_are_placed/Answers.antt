use Rattle.sdb_steps.proofs.PlacementLemmas.{placed_all}
use Rattle.sdb_steps.proofs.laws.submissions_are_placed.Goals as goal

pub returns : goal.returns
returns c = placed_all
