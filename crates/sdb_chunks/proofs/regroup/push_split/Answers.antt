use Rattle.std.proofs.Common.{max, arith}
use Rattle.sdb_chunks.proofs.GroupLemmas.{part_next}
use Rattle.sdb_chunks.specs.Chunks.{max_chunk_length}
use Rattle.sdb_chunks.proofs.ChunkBounds.{part_short}
use Rattle.sdb_chunks.proofs.regroup.push_split.Goals as goal

pub loop-start-preserved : goal.loop-start-preserved
loop-start-preserved g c = record {
  within = omega (arith, c.min.ensures, c.loop-start-test.true);
  same = part_next g.T.TryClone.model c.args.chunks.now.items c.loop-start.chunks.items c.push.new.self.items c.args.items.now c.in_ok-part.part.items c.in_ok-into_frozen.field-0
      c.loop-start.start c.min.result _ c.loop-start.invariant.same c.in_ok-push.ensures.items c.in_ok-into_frozen.ensures.equal c.in_ok-part.ensures (omega arith);
  short = part_short g.T.TryClone.model c.loop-start.chunks.items c.push.new.self.items c.args.items.now c.in_ok-part.part.items c.in_ok-into_frozen.field-0 c.loop-start.start
      (max 20 (max_chunk_length c.args.chunks.now.items)) _ c.in_ok-push.ensures.items c.in_ok-into_frozen.ensures.equal c.in_ok-part.ensures c.loop-start.invariant.short
      (omega (arith, c.min.ensures));
}
