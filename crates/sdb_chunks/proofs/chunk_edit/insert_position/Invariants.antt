use Rattle.std.proofs.Common.{◌≡◌, ◌<◌, ◌+◌, length, take}
use Rattle.sdb_chunks.specs.ChunkedVec.{flatten_models}
use Rattle.sdb_chunks.proofs.chunk_edit.insert_position.Given as goal

abbrev pub invariant-loop-at : goal.invariant-loop-at
invariant-loop-at g l = record {
  sum : length (flatten_models g.T.TryClone.model (take l.at l.chunks)) + l.left ≡ l.index;
  behind : 0 < l.at → 0 < l.left;
}
