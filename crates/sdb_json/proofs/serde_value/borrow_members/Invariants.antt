use Rattle.std.proofs.Common.{◌≡◌, List, ◌++◌}
use Rattle.serde_json.specs.View.{members_view, view}
use Rattle.serde_json.proofs.Views.{Entry}
use Rattle.sdb_json.specs.TreeData.{sorted_members}
use Rattle.sdb_json.proofs.serde_value.borrow_members.Given as goal

abbrev pub invariant-loop-key : goal.invariant-loop-key
invariant-loop-key l = record {
  done : List Entry;
  split : l.members.entries ≡ done ++ l.key-iterator;
  same : sorted_members view l.found.entries ≡ members_view done;
}
