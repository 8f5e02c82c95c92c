use Rattle.std.proofs.Common.{arith}
use Rattle.sdb_sorted_map.proofs.RunLemmas.{length_to, length_more}
use Rattle.sdb_sorted_map.proofs.search.count_in.Goals as goal

pub overflow_add-count : goal.overflow_add-count
overflow_add-count g c =
    omega (
      arith,
      c.loop-run.invariant,
      c.requires,
      c.count-count.ensures,
      length_to g.P.SortedRun.keys c.args.runs.now c.loop-run.run-index c.run-item.result c.loop-run-test.true c.run-item.is,
    )

pub loop-run-preserved : goal.loop-run-preserved
loop-run-preserved g c =
    omega (
      arith,
      c.loop-run.invariant,
      c.count-count.ensures,
      length_more g.P.SortedRun.keys c.args.runs.now c.loop-run.run-index c.run-item.result c.loop-run-test.true c.run-item.is,
    )
