use Rattle.std.proofs.Common.{◌≡◌, ◌≤◌, ◌-◌, length, take}
use Rattle.sdb_chunks.specs.ChunkGroup.{flatten_group_models, max_grouped_length}
use Rattle.sdb_chunks.specs.ChunkedVec.{flatten_models, max_chunk_length}
use Rattle.sdb_chunks.proofs.regroup.split_into_groups.Given as goal

abbrev pub invariant-loop-start : goal.invariant-loop-start
invariant-loop-start g l = record {
  within : l.start ≤ length l.chunks;
  same : flatten_group_models g.T.TryClone.model l.groups.items ≡ flatten_models g.T.TryClone.model (take l.start l.chunks);
  short : max_grouped_length l.groups.items ≤ max_chunk_length l.chunks;
}

abbrev pub decreases-loop-start : goal.decreases-loop-start
decreases-loop-start g l = length l.chunks - l.start
