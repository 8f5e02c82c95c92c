use Rattle.std.proofs.Common.{◌≤◌, length, arith}
use Rattle.std.specs.List.{flat_map}
use Rattle.sdb_chunks.specs.Chunk.{items_of}
use Rattle.sdb_chunks.specs.ChunkGroup.{group_chunks}
use Rattle.sdb_chunks.proofs.GroupLemmas.{insert_position_in_group, offset_after_group}
use Rattle.sdb_chunks.proofs.group_list.group_insert_position.Goals as goal

pub returns-then-left-len-clause-position : goal.returns-then-left-len-clause-position
returns-then-left-len-clause-position g c =
    let group = c.index-groups-at.result in
    let w : c.loop-at.left ≤ length (flat_map items_of (group_chunks group)) = omega (arith, c.if-left-len.true, c.len.ensures) in
    insert_position_in_group g.T.TryClone.model c.args.groups.now c.args.index c.loop-at.at c.loop-at.left group c.loop-at-test.true c.index-groups-at.is c.loop-at.invariant.sum w

pub loop-at-preserved : goal.loop-at-preserved
loop-at-preserved g c =
    let group = c.index-groups-at.result in
    record {
      sum = offset_after_group g.T.TryClone.model c.args.groups.now c.args.index c.loop-at.at c.loop-at.left c.len-left.result group c.loop-at-test.true c.index-groups-at.is
          c.loop-at.invariant.sum c.len-left.ensures (omega (arith, c.if-left-len.false, c.len.ensures, c.len-left.ensures));
      behind = λ _. omega (arith, c.if-left-len.false, c.len.ensures, c.len-left.ensures);
    }
