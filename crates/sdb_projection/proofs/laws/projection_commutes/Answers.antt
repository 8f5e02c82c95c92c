use Rattle.sdb_value.specs.View.{value_of}
use Rattle.sdb_projection.proofs.CommuteLemmas.{commutes_for_all}
use Rattle.sdb_projection.proofs.laws.projection_commutes.Goals as goal

pub returns : goal.returns
returns c = commutes_for_all (value_of c.args.value.now) c.well_formed-2.ensures
