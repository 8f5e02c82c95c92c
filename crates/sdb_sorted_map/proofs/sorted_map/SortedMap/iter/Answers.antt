use Rattle.std.proofs.Common.{sym, subst}
use Rattle.sdb_sorted_map.specs.laws.SortedMapLaws.{keys_of_vec_entries}
use Rattle.sdb_sorted_map.specs.KeyOrder.{IsAscending}
use Rattle.sdb_sorted_map.proofs.sorted_map.SortedMap.iter.Goals as goal

pub returns-clause-ordered : goal.returns-clause-ordered
returns-clause-ordered g c = subst IsAscending (sym (keys_of_vec_entries c.args.self.now.entries)) c.args.self.now.keys_ascending
