use Rattle.std.proofs.Common.{◌<◌, length, arith}
use Rattle.std.specs.List.{flat_map}
use Rattle.sdb_chunks.specs.Chunk.{items_of}
use Rattle.sdb_chunks.specs.ChunkGroup.{group_chunks}
use Rattle.sdb_chunks.proofs.GroupLemmas.{item_position_in_group, offset_after_group}
use Rattle.sdb_chunks.proofs.group_list.group_item_position.Goals as goal

pub returns-then-left-len-clause-item : goal.returns-then-left-len-clause-item
returns-then-left-len-clause-item g c =
    let group = c.index-groups-at.result in
    let w : c.loop-at.left < length (flat_map items_of (group_chunks group)) = omega (arith, c.if-left-len.true, c.len.ensures) in
    item_position_in_group g.T.TryClone.model c.args.groups.now c.args.index c.loop-at.at c.loop-at.left group c.loop-at-test.true c.index-groups-at.is c.loop-at.invariant w

pub loop-at-preserved : goal.loop-at-preserved
loop-at-preserved g c =
    let group = c.index-groups-at.result in
    offset_after_group g.T.TryClone.model c.args.groups.now c.args.index c.loop-at.at c.loop-at.left c.len-left.result group c.loop-at-test.true c.index-groups-at.is
    c.loop-at.invariant c.len-left.ensures (omega (arith, c.if-left-len.false, c.len.ensures, c.len-left.ensures))
