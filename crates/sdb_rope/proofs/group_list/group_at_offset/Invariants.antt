use Rattle.std.proofs.Common.{◌≡◌, ◌+◌, ◌≤◌, length, take}
use Rattle.std.specs.List.{concat}
use Rattle.sdb_rope.specs.GroupModel.{group_texts}
use Rattle.sdb_rope.specs.Utf16.{units}
use Rattle.sdb_rope.proofs.group_list.group_at_offset.Given as goal

abbrev pub invariant-loop-at : goal.invariant-loop-at
invariant-loop-at l = record {
  sum : units (concat (take l.at (group_texts l.groups))) + l.left ≡ l.offset;
  only : length l.groups ≤ l.at → l.at ≡ 0;
}
