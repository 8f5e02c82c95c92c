use Rattle.std.proofs.Common.{◌≤◌, map, length, slice_get, sym, ap, ◌∙◌, arith}
use Rattle.std.proofs.Math.ListN.{length-map}
use Rattle.std.specs.List.{remove}
use Rattle.sdb_chunks.specs.Chunk.{items_of}
use Rattle.sdb_chunks.specs.ChunkedVec.{repr_models}
use Rattle.sdb_chunks.proofs.FlattenLemmas.{get_none, remove_none}
use Rattle.sdb_chunks.proofs.chunked_vec.ChunkedVec.remove.Goals as goal

pub returns-then-index-len-clause-ok : goal.returns-then-index-len-clause-ok
returns-then-index-len-clause-ok g c =
    let f = g.T.TryClone.model in
    let i = c.args.index in
    let items = items_of c.in-Flat.chunk in
    let n = length-map items f in
    let past : length (map f items) ≤ i = omega (arith, c.if-index-len.true, c.len.ensures, n) in (
      sym (get_none (map f items) i past) ∙ sym (ap (λ w. slice_get (repr_models f w) i) c.in-Flat.is),
      sym (remove_none (map f items) i past) ∙ sym (ap (λ w. remove (repr_models f w) i) c.in-Flat.is),
    )
