use Rattle.std.proofs.Common.{◌≡◌, ◌+◌, ◌*◌, ◌≤◌, drop}
use Rattle.sdb_component.specs.Weight.{weight}
use Rattle.sdb_component.proofs.op_weight.weight.Given as goal

abbrev pub invariant-loop-component : goal.invariant-loop-component
invariant-loop-component l = record {
  weighed : l.total + weight (drop l.component-index l.component-items) ≡ weight l.component-items;
  few : l.total ≤ 18446744073709551615 * l.component-index;
}
