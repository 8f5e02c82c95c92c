use Rattle.std.proofs.Common.{◌≡◌, drop, slice_get}
use Rattle.sdb_rope.specs.GroupModel.{texts_of_groups}
use Rattle.sdb_rope.proofs.read.grouped_chunk_str.Given as goal

abbrev pub invariant-loop-group : goal.invariant-loop-group
invariant-loop-group l = slice_get (texts_of_groups (drop l.group-index l.groups)) l.left ≡ slice_get (texts_of_groups l.groups) l.index
