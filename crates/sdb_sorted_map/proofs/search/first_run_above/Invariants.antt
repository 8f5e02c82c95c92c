use Rattle.std.proofs.Common.{◌≤◌, ◌-◌, length}
use Rattle.sdb_sorted_map.specs.KeyOrder.{IsBelowAll}
use Rattle.sdb_sorted_map.specs.SearchModel.{keys_of_other_runs}
use Rattle.sdb_sorted_map.proofs.search.first_run_above.Given as goal

abbrev pub invariant-loop-low : goal.invariant-loop-low
invariant-loop-low g l = record {
  ordered : l.low ≤ l.high;
  within : l.high ≤ length l.runs;
  below : IsBelowAll l.key (keys_of_other_runs g.P.SortedRun.keys l.runs l.high);
}

abbrev pub decreases-loop-low : goal.decreases-loop-low
decreases-loop-low g l = l.high - l.low
