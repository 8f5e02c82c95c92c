use Rattle.std.proofs.Common.{◌≡◌, ◌≤◌, ◌-◌, length, take}
use Rattle.sdb_rope.specs.GroupModel.{texts_of_groups}
use Rattle.sdb_rope.specs.RopeChunk.{chunk_list_texts}
use Rattle.sdb_rope.proofs.regroup.split_into_groups.Given as goal

abbrev pub invariant-loop-start : goal.invariant-loop-start
invariant-loop-start l = record {
  within : l.start ≤ length l.chunks;
  same : texts_of_groups l.groups.items ≡ chunk_list_texts (take l.start l.chunks);
}

abbrev pub decreases-loop-start : goal.decreases-loop-start
decreases-loop-start l = length l.chunks - l.start
