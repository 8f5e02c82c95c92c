use Rattle.std.proofs.Common.{◌≤◌, ◌-◌, length, take, drop}
use Rattle.sdb_sorted_map.specs.KeyOrder.{IsAboveAll, IsBelowAll}
use Rattle.sdb_sorted_map.specs.SearchModel.{entry_key_bytes}
use Rattle.sdb_sorted_map.proofs.search.find_in_run.Given as goal

abbrev pub invariant-loop-low : goal.invariant-loop-low
invariant-loop-low g l = record {
  ordered : l.low ≤ l.high;
  within : l.high ≤ length l.members;
  above : IsAboveAll l.key (take l.low (entry_key_bytes l.members));
  below : IsBelowAll l.key (drop l.high (entry_key_bytes l.members));
}

abbrev pub decreases-loop-low : goal.decreases-loop-low
decreases-loop-low g l = l.high - l.low
