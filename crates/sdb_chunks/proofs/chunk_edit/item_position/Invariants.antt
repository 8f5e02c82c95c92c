use Rattle.std.proofs.Common.{◌≡◌, ◌+◌, length, take}
use Rattle.sdb_chunks.specs.ChunkedVec.{flatten_models}
use Rattle.sdb_chunks.proofs.chunk_edit.item_position.Given as goal

abbrev pub invariant-loop-at : goal.invariant-loop-at
invariant-loop-at g l = length (flatten_models g.T.TryClone.model (take l.at l.chunks)) + l.left ≡ l.index
