use Rattle.sdb_chunks.specs.ChunkedVec.{chunk_models}
use Rattle.std.proofs.Common.{◌≡◌, ◌+◌, ◌-◌, ◌<◌, length, map, sym, ◌∙◌, arith}
use Rattle.std.proofs.Math.ListN.{length-map}
use Rattle.sdb_chunks.specs.Chunk.{items_of}
use Rattle.sdb_chunks.proofs.FlattenLemmas.{get_here, get_past, map_get, seen_of_ref}
use Rattle.sdb_chunks.proofs.chunk_edit.item_in_chunks.Goals as goal

pub returns-then-left-len : goal.returns-then-left-len
returns-then-left-len g c =
    let f = g.T.TryClone.model in let bs = c.args.chunks.now in let k = c.loop-chunk.chunk-index in let b = c.chunk-item.result in let left = c.loop-chunk.left in
    let l : left < length (map f (items_of b)) = omega (arith, c.len.ensures, length-map (items_of b) f, c.if-left-len.true) in
    seen_of_ref f c.get.result _ c.get.ensures ∙ sym (map_get f (items_of b) left)
    ∙ sym (get_here (chunk_models f) bs k left b c.loop-chunk-test.true c.chunk-item.is l) ∙ c.loop-chunk.invariant

pub loop-chunk-preserved : goal.loop-chunk-preserved
loop-chunk-preserved g c =
    let f = g.T.TryClone.model in let bs = c.args.chunks.now in let k = c.loop-chunk.chunk-index in let b = c.chunk-item.result in let left = c.loop-chunk.left in
    let n = c.len-left.result in
    let e : left ≡ length (map f (items_of b)) + (left - n) = omega (arith, c.len.ensures, c.len-left.ensures, length-map (items_of b) f, c.if-left-len.false) in
    sym (get_past (chunk_models f) bs k left (left - n) b c.loop-chunk-test.true c.chunk-item.is e) ∙ c.loop-chunk.invariant
