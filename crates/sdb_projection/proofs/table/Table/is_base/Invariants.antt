use Rattle.std.proofs.Common.{◌≡◌, drop, map}
use Rattle.sdb_projection.specs.Table.{is_base}
use Rattle.sdb_projection.specs.View.{plain_projection}
use Rattle.sdb_projection.proofs.table.Table.is_base.Given as goal

abbrev pub invariant-loop-projection : goal.invariant-loop-projection
invariant-loop-projection l = is_base l.name (map plain_projection (drop l.projection-index l.projection-items)) ≡ is_base l.name l.self
