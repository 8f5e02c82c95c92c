use Rattle.std.proofs.Common.{drop}
use Rattle.sdb_transform.specs.OperationConvergence.{HaveValidParts}
use Rattle.sdb_transform.proofs.laws.have_parts.Given as goal

abbrev pub invariant-loop-component : goal.invariant-loop-component
invariant-loop-component l = HaveValidParts (drop l.component-index l.components) → HaveValidParts l.components
