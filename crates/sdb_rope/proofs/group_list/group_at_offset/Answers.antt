use Rattle.std.proofs.Common.{◌<◌, ap, arith}
use Rattle.std.specs.List.{concat}
use Rattle.sdb_rope.specs.RopeChunk.{chunk_list_texts}
use Rattle.sdb_rope.specs.Utf16.{units}
use Rattle.sdb_rope.proofs.GroupLemmas.{count_groups, read_group, place_inside, units_after}
use Rattle.sdb_rope.proofs.group_list.group_at_offset.Goals as goal

pub returns-in-Ok-clause-some : goal.returns-in-Ok-clause-some
returns-in-Ok-clause-some c =
    let gs = c.args.groups.now in
    let at = c.loop-at.at in
    let p = c.in-Ok.ensures.ok in
    let less : c.loop-at.left < units (concat (chunk_list_texts c.items.result.now)) = place_inside (chunk_list_texts c.items.result.now) c.loop-at.left c.in-Ok.field-0.0 c.in-Ok.field-0.1 p in
    let here = ap units (read_group gs at c.index-groups-at.result c.loop-at-test.true c.index-groups-at.is) in
    let same = ap (λ x. units (concat (chunk_list_texts x))) c.items.ensures in
    record {
      index_in_range = omega (arith, c.loop-at-test.true, count_groups gs);
      offset_is_sum = c.loop-at.invariant.sum;
      within = λ _. omega (arith, less, here, same);
    }

pub loop-at-preserved : goal.loop-at-preserved
loop-at-preserved c =
    let gs = c.args.groups.now in
    let same = ap (λ x. units (concat (chunk_list_texts x))) c.items.ensures in
    record {
      sum = units_after gs c.loop-at.at c.loop-at.left c.in-Err.past c.args.offset c.index-groups-at.result c.loop-at-test.true c.index-groups-at.is (omega (arith, c.in-Err.ensures.err, same)) c.loop-at.invariant.sum;
      only = λ l. absurd (omega (arith, l, c.loop-at-test.true, c.if-at-groups.false));
    }
