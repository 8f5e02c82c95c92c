use Rattle.std.proofs.Common.{◌≡◌, ◌++◌, map}
use Rattle.sdb_chunks.specs.Iter.{remaining_items}
use Rattle.sdb_chunks.specs.ChunkedVec.{vec_items}
use Rattle.sdb_chunks.proofs.chunked_vec.clone_flat.Given as goal

abbrev pub invariant-loop-item : goal.invariant-loop-item
invariant-loop-item g l = map g.T.TryClone.model l.items.items ++ map g.T.TryClone.model (remaining_items l.item-iterator) ≡ map g.T.TryClone.model (vec_items l.list)
