use Rattle.std.proofs.Common.{◌<◌, ◌+◌, ◌-◌, ◌/◌, length, arith}
use Rattle.sdb_sorted_map.proofs.BinarySearch.{below_middle, above_middle, found_middle}
use Rattle.sdb_sorted_map.proofs.search.find_in_run.Goals as goal

pub loop-low-preserved-in-Less : goal.loop-low-preserved-in-Less
loop-low-preserved-in-Less g c =
    let m = c.loop-low.low + (c.loop-low.high - c.loop-low.low) / 2 in
    let h : m < length c.args.members.now = omega arith in
    record {
      ordered = omega arith;
      within = omega arith;
      above = c.loop-low.invariant.above;
      below = below_middle c.args.key.now c.args.members.now m c.index-members-middle.result c.cmp.result c.as_str.result.now c.requires h
          c.index-members-middle.is c.as_str.ensures c.cmp.ensures c.in-Less.is;
    }

pub loop-low-preserved : goal.loop-low-preserved
loop-low-preserved g c =
    let m = c.loop-low.low + (c.loop-low.high - c.loop-low.low) / 2 in
    let h : m < length c.args.members.now = omega arith in
    record {
      ordered = omega arith;
      within = c.loop-low.invariant.within;
      above = above_middle c.args.key.now c.args.members.now m c.index-members-middle.result c.cmp.result c.as_str.result.now c.requires h
          c.index-members-middle.is c.as_str.ensures c.cmp.ensures c.in-Greater.is;
      below = c.loop-low.invariant.below;
    }

pub returns-in-Equal-clause-key_index : goal.returns-in-Equal-clause-key_index
returns-in-Equal-clause-key_index g c =
    let m = c.loop-low.low + (c.loop-low.high - c.loop-low.low) / 2 in
    let h : m < length c.args.members.now = omega arith in
    found_middle c.args.key.now c.args.members.now m c.index-members-middle.result c.cmp.result c.as_str.result.now c.requires h
    c.index-members-middle.is c.as_str.ensures c.cmp.ensures c.in-Equal.is
