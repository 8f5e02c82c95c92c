use Rattle.std.proofs.Common.{◌+◌, ◌≤◌, length, arith}
use Rattle.sdb_rope.proofs.OffsetLemmas.{cut_more}
use Rattle.sdb_rope.proofs.utf16.skip.Goals as goal

pub loop-start-preserved : goal.loop-start-preserved
loop-start-preserved c =
    let start = c.loop-start.start in
    let within : start + 4096 ≤ length c.args.bytes.now = omega (arith, c.loop-start-test.true, c.loop-start.invariant.within) in
    record {
      within = within;
      same = cut_more start (start + 4096) c.units_in-chunk.result c.args.bytes.now c.args.offset c.loop-start.left (omega arith) within c.units_in-chunk.ensures.value c.if-chunk-left.false c.loop-start.invariant.same;
    }
