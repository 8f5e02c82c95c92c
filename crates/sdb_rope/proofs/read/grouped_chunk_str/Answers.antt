use Rattle.std.proofs.Common.{◌≡◌, ◌+◌, ◌-◌, ◌<◌, length, slice_get, sym, ap, ◌∙◌, arith}
use Rattle.std.proofs.Math.ListN.{length-map}
use Rattle.sdb_chunks.specs.Chunk.{items_of}
use Rattle.sdb_chunks.proofs.FlattenLemmas.{get_here, get_past}
use Rattle.sdb_rope.specs.ChunkModel.{chunk_texts}
use Rattle.sdb_rope.specs.RopeChunk.{chunk_bytes, chunk_list_texts}
use Rattle.sdb_rope.proofs.read.grouped_chunk_str.Goals as goal

pub returns-then-left-len : goal.returns-then-left-len
returns-then-left-len c =
    let gs = c.args.groups.now in
    let g = c.group-item.result in
    let inside : c.loop-group.left < length (chunk_texts g) = omega (arith, c.len.ensures, length-map (items_of g) chunk_bytes, c.if-left-len.true) in
    c.chunk_str.ensures ∙ ap (λ ps. slice_get (chunk_list_texts ps) c.loop-group.left) c.items.ensures
    ∙ sym (get_here chunk_texts gs c.loop-group.group-index c.loop-group.left g c.loop-group-test.true c.group-item.is inside) ∙ c.loop-group.invariant

pub loop-group-preserved : goal.loop-group-preserved
loop-group-preserved c =
    let gs = c.args.groups.now in
    let g = c.group-item.result in
    let n = c.len-left.result in
    let past : c.loop-group.left ≡ length (chunk_texts g) + (c.loop-group.left - n) = omega (arith, c.len.ensures, c.len-left.ensures, length-map (items_of g) chunk_bytes, c.if-left-len.false) in
    sym (get_past chunk_texts gs c.loop-group.group-index c.loop-group.left (c.loop-group.left - n) g c.loop-group-test.true c.group-item.is past) ∙ c.loop-group.invariant
