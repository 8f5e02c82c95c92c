use Rattle.std.proofs.Common.{◌≡◌, take}
use Rattle.sdb_component.proofs.operation.Op.try_clone.Given as goal

abbrev pub invariant-loop-component : goal.invariant-loop-component
invariant-loop-component l = l.copies.items ≡ take l.component-index l.component-items
