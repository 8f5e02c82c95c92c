use Rattle.std.proofs.Common.{◌≡◌, length}
use Rattle.sdb_sorted_map.specs.SearchModel.{keys_of_first_runs}
use Rattle.sdb_sorted_map.proofs.search.count_in.Given as goal

abbrev pub invariant-loop-run : goal.invariant-loop-run
invariant-loop-run g l = l.count ≡ length (keys_of_first_runs g.P.SortedRun.keys l.runs l.run-index)
