use Rattle.std.proofs.Common.{◌≡◌, take}
use Rattle.sdb_transform.proofs.component_list.clone_components.Given as goal

abbrev pub invariant-loop-component : goal.invariant-loop-component
invariant-loop-component l = l.copies.items ≡ take l.component-index l.components
