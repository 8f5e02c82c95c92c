use Rattle.std.proofs.Common.{◌≡◌, drop, slice_get}
use Rattle.sdb_chunks.specs.ChunkedVec.{flatten_models}
use Rattle.sdb_chunks.proofs.chunk_edit.item_in_chunks.Given as goal

abbrev pub invariant-loop-chunk : goal.invariant-loop-chunk
invariant-loop-chunk g l =
    slice_get (flatten_models g.T.TryClone.model (drop l.chunk-index l.chunks)) l.left ≡ slice_get (flatten_models g.T.TryClone.model l.chunks) l.index
