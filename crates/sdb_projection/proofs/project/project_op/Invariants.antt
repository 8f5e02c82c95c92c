use Rattle.std.proofs.Common.{◌≡◌, take}
use Rattle.std.specs.List.{filter}
use Rattle.sdb_projection.specs.ProjectionModel.{is_visible_component}
use Rattle.sdb_projection.specs.View.{fields_of}
use Rattle.sdb_projection.proofs.project.project_op.Given as goal

abbrev pub invariant-loop-component : goal.invariant-loop-component
invariant-loop-component l = l.copies.items ≡ filter (is_visible_component (fields_of l.projection)) (take l.component-index l.component-items)
