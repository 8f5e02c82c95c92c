use Rattle.std.proofs.Common.{◌≡◌, List, ◌++◌}
use Rattle.sdb_sorted_map.specs.Iter.{remaining_entries}
use Rattle.sdb_sorted_map.specs.SortedMap.{map_entries}
use Rattle.sdb_value.specs.View.{members_value, object_value}
use Rattle.sdb_projection.specs.ProjectionModel.{project_members}
use Rattle.sdb_projection.specs.View.{fields_of}
use Rattle.sdb_projection.proofs.MemberWalk.{MemberEntry}
use Rattle.sdb_projection.proofs.project.project_members.Given as goal

abbrev pub invariant-loop-key : goal.invariant-loop-key
invariant-loop-key l = (done : List MemberEntry) × (map_entries l.members ≡ done ++ remaining_entries l.key-iterator) × (object_value l.copies ≡ project_members (fields_of l.projection) (members_value done))
