use Rattle.std.proofs.Common.{◌≡◌, take, Some}
use Rattle.sdb_value.specs.View.{value_of}
use Rattle.sdb_apply.specs.Apply.{apply}
use Rattle.sdb_apply.specs.CommonPath.{strip_steps}
use Rattle.sdb_apply.proofs.atomic_apply.apply_at_depth.Given as goal

abbrev pub invariant-loop-component : goal.invariant-loop-component
invariant-loop-component l = apply (strip_steps l.depth (take l.component-index l.components)) (value_of l.initial.value) ≡ Some (value_of l.value)
