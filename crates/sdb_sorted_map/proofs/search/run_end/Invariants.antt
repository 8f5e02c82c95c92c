use Rattle.std.proofs.Common.{◌≤◌, length}
use Rattle.sdb_sorted_map.specs.KeyOrder.{IsBelowAll}
use Rattle.sdb_sorted_map.specs.SearchModel.{keys_of_other_runs}
use Rattle.sdb_sorted_map.proofs.search.run_end.Given as goal

abbrev pub invariant-loop-end : goal.invariant-loop-end
invariant-loop-end g l = record {
  within : l.end ≤ length l.runs;
  below : IsBelowAll l.key (keys_of_other_runs g.P.SortedRun.keys l.runs l.end);
}

abbrev pub decreases-loop-end : goal.decreases-loop-end
decreases-loop-end g l = l.end
