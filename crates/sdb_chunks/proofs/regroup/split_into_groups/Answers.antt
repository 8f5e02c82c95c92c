use Rattle.std.proofs.Common.{ap, arith}
use Rattle.sdb_chunks.specs.Chunk.{items_of}
use Rattle.sdb_chunks.proofs.GroupLemmas.{group_next}
use Rattle.sdb_chunks.proofs.ChunkBounds.{group_short}
use Rattle.sdb_chunks.proofs.regroup.split_into_groups.Goals as goal

pub loop-start-preserved : goal.loop-start-preserved
loop-start-preserved g c = record {
  within = omega (arith, c.min.ensures, c.loop-start-test.true);
  same = group_next g.T.TryClone.model c.loop-start.groups.items c.push.new.self.items c.args.chunks.now c.in_ok-group.group.items c.new.result c.loop-start.start c.min.result _
      c.loop-start.invariant.same c.in_ok-push.ensures.items (ap items_of c.new.ensures) c.in_ok-group.ensures (omega arith);
  short = group_short g.T.TryClone.model c.loop-start.groups.items c.push.new.self.items c.args.chunks.now c.in_ok-group.group.items c.new.result c.loop-start.start _
      c.in_ok-push.ensures.items (ap items_of c.new.ensures) c.in_ok-group.ensures c.loop-start.invariant.short;
}
