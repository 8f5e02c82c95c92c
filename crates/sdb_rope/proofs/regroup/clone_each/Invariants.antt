use Rattle.std.proofs.Common.{◌≡◌, take}
use Rattle.sdb_rope.specs.GroupModel.{texts_of_groups}
use Rattle.sdb_rope.proofs.regroup.clone_each.Given as goal

abbrev pub invariant-loop-group : goal.invariant-loop-group
invariant-loop-group l = texts_of_groups l.copies.items ≡ texts_of_groups (take l.group-index l.groups)
