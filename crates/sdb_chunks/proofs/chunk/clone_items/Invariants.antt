use Rattle.std.proofs.Common.{◌≡◌, map, take}
use Rattle.sdb_chunks.proofs.chunk.clone_items.Given as goal

abbrev pub invariant-loop-item : goal.invariant-loop-item
invariant-loop-item g l = map g.T.TryClone.model l.copies.items ≡ map g.T.TryClone.model (take l.item-index l.items)
