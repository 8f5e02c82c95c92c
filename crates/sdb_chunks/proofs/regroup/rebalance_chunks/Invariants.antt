use Rattle.std.proofs.Common.{◌≡◌, ◌≤◌, take}
use Rattle.sdb_chunks.specs.ChunkedVec.{flatten_models, max_chunk_length}
use Rattle.sdb_chunks.proofs.regroup.rebalance_chunks.Given as goal

abbrev pub invariant-loop-chunk : goal.invariant-loop-chunk
invariant-loop-chunk g l = record {
  same : flatten_models g.T.TryClone.model l.short.items ≡ flatten_models g.T.TryClone.model (take l.chunk-index l.chunks);
  short : max_chunk_length l.short.items ≤ 20;
}
