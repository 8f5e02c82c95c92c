use Rattle.std.proofs.Common.{◌≡◌, ◌+◌, ◌-◌, ◌≤◌, min, drop}
use Rattle.sdb_value.specs.View.{plain_path}
use Rattle.sdb_component.specs.Size.{path_size}
use Rattle.sdb_component.proofs.size.size_of_path.Given as goal

-- the size so far and the rest up to the limit
abbrev pub invariant-loop-step : goal.invariant-loop-step
invariant-loop-step l = record {
  within : l.left ≤ l.limit;
  counted : min l.limit (path_size (plain_path l.path)) ≡ (l.limit - l.left) + min l.left (path_size (plain_path (drop l.step-index l.path)));
}
