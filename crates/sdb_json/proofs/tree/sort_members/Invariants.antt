use Rattle.std.proofs.Common.{◌≡◌, take}
use Rattle.json.specs.Value.{members_view}
use Rattle.serde_json.specs.Data.{no_members}
use Rattle.sdb_json.specs.TreeData.{members_data, sorted_members, tree_data}
use Rattle.sdb_json.proofs.tree.sort_members.Given as goal

abbrev pub invariant-loop-name : goal.invariant-loop-name
invariant-loop-name l = sorted_members tree_data l.found.entries ≡ members_data (members_view (take l.name-index l.members)) no_members
