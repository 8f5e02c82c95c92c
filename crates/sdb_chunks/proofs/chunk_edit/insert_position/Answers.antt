use Rattle.std.proofs.Common.{length, ap, arith}
use Rattle.sdb_chunks.specs.Chunk.{items_of}
use Rattle.sdb_chunks.proofs.ChunkBounds.{chunk_here}
use Rattle.sdb_chunks.proofs.chunk_edit.insert_position.Goals as goal

pub returns-then-left-len-clause-first : goal.returns-then-left-len-clause-first
returns-then-left-len-clause-first g c =
    let b = c.index-chunks-at.result in
    let n = ap (λ x. length (items_of x)) c.index-chunks-at.is in
    chunk_here g.T.TryClone.model c.args.chunks.now c.args.index c.loop-at.at c.loop-at.left b c.loop-at-test.true c.loop-at.invariant.sum c.loop-at.invariant.behind
    (omega (arith, n, c.if-left-len.true, c.len.ensures))
