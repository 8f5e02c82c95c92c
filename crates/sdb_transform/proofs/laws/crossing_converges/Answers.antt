use Rattle.std.proofs.Common.{subst}
use Rattle.sdb_value.specs.View.{value_of}
use Rattle.sdb_transform.specs.OperationConvergence.{HaveValidParts}
use Rattle.sdb_transform.proofs.OperationLemmas.{all_operations_converge}
use Rattle.sdb_transform.proofs.laws.crossing_converges.Goals as goal

pub returns : goal.returns
returns c =
    all_operations_converge (value_of c.args.document.now) c.args.left.now c.args.right.now c.well_formed-2.ensures
    (c.requires.left_well_made, subst HaveValidParts c.components.ensures c.have_parts.ensures)
    (c.requires.right_well_made, subst HaveValidParts c.components-2.ensures c.have_parts-2.ensures)
