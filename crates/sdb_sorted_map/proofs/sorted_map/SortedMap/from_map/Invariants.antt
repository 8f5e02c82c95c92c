use Rattle.std.proofs.Common.{◌≡◌, List, ◌++◌, map, String, string_bytes}
use Rattle.std.specs.declared.alloc.Global.{Global}
use Rattle.sdb_sorted_map.specs.MapEntry.{key_value}
use Rattle.sdb_sorted_map.proofs.sorted_map.SortedMap.from_map.Given as goal

abbrev pub invariant-loop-key : goal.invariant-loop-key
invariant-loop-key g l = record {
  done : List (String Global × g.row.V.Denot);
  split : l.fn.entries.entries ≡ done ++ l.key-iterator;
  members : map key_value l.members.items ≡ map (λ e. (string_bytes e.0, e.1)) done;
}
