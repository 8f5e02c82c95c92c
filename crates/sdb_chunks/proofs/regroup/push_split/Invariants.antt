use Rattle.std.proofs.Common.{◌≡◌, ◌≤◌, ◌-◌, max, ◌++◌, length, map, take}
use Rattle.sdb_chunks.specs.ChunkedVec.{flatten_models, max_chunk_length}
use Rattle.sdb_chunks.proofs.regroup.push_split.Given as goal

abbrev pub invariant-loop-start : goal.invariant-loop-start
invariant-loop-start g l = record {
  within : l.start ≤ length l.items;
  same : flatten_models g.T.TryClone.model l.chunks.items ≡ flatten_models g.T.TryClone.model l.initial.chunks.items ++ map g.T.TryClone.model (take l.start l.items);
  short : max_chunk_length l.chunks.items ≤ max 20 (max_chunk_length l.initial.chunks.items);
}

abbrev pub decreases-loop-start : goal.decreases-loop-start
decreases-loop-start g l = length l.items - l.start
