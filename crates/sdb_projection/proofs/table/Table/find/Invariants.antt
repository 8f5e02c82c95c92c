use Rattle.std.proofs.Common.{◌≡◌, drop, map}
use Rattle.sdb_projection.specs.Table.{projection_of}
use Rattle.sdb_projection.specs.View.{plain_projection}
use Rattle.sdb_projection.proofs.table.Table.find.Given as goal

abbrev pub invariant-loop-projection : goal.invariant-loop-projection
invariant-loop-projection l = projection_of l.name (map plain_projection (drop l.projection-index l.projection-items)) ≡ projection_of l.name l.self
