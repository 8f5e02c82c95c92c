use Rattle.std.proofs.Common.{arith}
use Rattle.sdb_rope.proofs.GroupLemmas.{group_next}
use Rattle.sdb_rope.proofs.regroup.split_into_groups.Goals as goal

pub loop-start-preserved : goal.loop-start-preserved
loop-start-preserved c = record {
  within = omega (arith, c.min.ensures, c.loop-start-test.true);
  same = group_next c.loop-start.groups.items c.push.new.self.items c.args.chunks.now c.in_ok-group.group.items c.in_ok-into_frozen.field-0 c.loop-start.start c.min.result _
      c.loop-start.invariant.same c.in_ok-push.ensures.items c.in_ok-into_frozen.ensures.equal c.in_ok-group.ensures (omega arith);
}
