use Rattle.std.proofs.Common.{◌≡◌, drop}
use Rattle.std.specs.List.{list_all}
use Rattle.sdb_projection.specs.ProjectionModel.{is_visible_component}
use Rattle.sdb_projection.specs.View.{fields_of}
use Rattle.sdb_projection.proofs.allow.allowed_op.Given as goal

abbrev pub invariant-loop-component : goal.invariant-loop-component
invariant-loop-component l = list_all (is_visible_component (fields_of l.projection)) (drop l.component-index l.component-items) ≡ list_all (is_visible_component (fields_of l.projection)) l.op
