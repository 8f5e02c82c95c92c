use Rattle.sdb_rope.proofs.ChunkListLemmas.{units_next}
use Rattle.sdb_rope.proofs.position.chunk_at_offset.Goals as goal

pub loop-at-preserved : goal.loop-at-preserved
loop-at-preserved c =
    units_next c.args.chunks.now c.loop-at.at c.loop-at.left c.units-units.result c.args.offset c.index-chunks-at.result c.loop-at-test.true c.index-chunks-at.is c.units-units.ensures c.if-left-units.false c.loop-at.invariant
