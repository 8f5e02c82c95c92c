use Rattle.std.proofs.Common.{◌≡◌}
use Rattle.sdb_sorted_map.specs.Iter.{remaining_entries}
use Rattle.sdb_value.specs.View.{members_value, object_value}
use Rattle.sdb_projection.specs.ProjectionModel.{has_only_fields}
use Rattle.sdb_projection.specs.View.{fields_of}
use Rattle.sdb_projection.proofs.allow.has_only_fields.Given as goal

abbrev pub invariant-loop-key : goal.invariant-loop-key
invariant-loop-key l = has_only_fields (fields_of l.projection) (members_value (remaining_entries l.key-iterator)) ≡ has_only_fields (fields_of l.projection) (object_value l.members)
