use Rattle.std.proofs.Common.{◌≡◌, take}
use Rattle.sdb_value.specs.View.{plain_path}
use Rattle.sdb_component.proofs.clone_path.clone_path.Given as goal

abbrev pub invariant-loop-step : goal.invariant-loop-step
invariant-loop-step l = plain_path l.copies.items ≡ plain_path (take l.step-index l.path)
