use Rattle.std.proofs.Common.{◌≡◌, take}
use Rattle.sdb_rope.specs.GroupModel.{texts_of_groups}
use Rattle.sdb_rope.specs.RopeChunk.{chunk_list_texts}
use Rattle.sdb_rope.proofs.regroup.ungroup_chunks.Given as goal

abbrev pub invariant-loop-group : goal.invariant-loop-group
invariant-loop-group l = chunk_list_texts l.chunks.items ≡ texts_of_groups (take l.group-index l.groups)
