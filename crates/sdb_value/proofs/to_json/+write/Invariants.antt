use Rattle.std.proofs.Common.{◌≡◌, suc, ◌≤◌, List, ◌++◌, map, ℕ}
use Rattle.sdb_sorted_map.specs.Iter.{remaining_entries as members_left}
use Rattle.sdb_sorted_map.specs.SortedMap.{map_entries}
use Rattle.sdb_chunks.specs.Iter.{remaining_items}
use Rattle.sdb_chunks.specs.ChunkedVec.{vec_items}
use Rattle.sdb_value.specs.declared.value.Json.{Json}
use Rattle.serde_json.specs.View as data-view
use Rattle.sdb_value.specs.FromJson.{data_of_value, data_of_members}
use Rattle.sdb_value.specs.View.{value_of, members_value}
use Rattle.sdb_value.proofs.WeightLemmas.{term_weight, term_weights, members_weight}
use Rattle.sdb_value.proofs.to_json.+write.Given as goal

abbrev pub decreases-write : goal.decreases-write
decreases-write l = term_weight l.json.now

abbrev pub decreases-write_items : goal.decreases-write_items
decreases-write_items l = suc (term_weights (vec_items l.items.now))

abbrev pub decreases-write_members : goal.decreases-write_members
decreases-write_members l = suc (members_weight (map_entries l.members.now))

abbrev pub invariant-write_items-loop-item : goal.invariant-write_items-loop-item
invariant-write_items-loop-item l = record {
  done : List Json;
  split : vec_items l.items ≡ done ++ remaining_items l.item-iterator;
  made : map data-view.view l.made.items ≡ map (λ j. data_of_value (value_of j)) done;
  below : term_weights (remaining_items l.item-iterator) ≤ term_weights (vec_items l.items);
}

abbrev pub invariant-write_members-loop-key : goal.invariant-write_members-loop-key
invariant-write_members-loop-key l = record {
  done : List (List ℕ × Json);
  split : map_entries l.members ≡ done ++ members_left l.key-iterator;
  made : data-view.members_view l.made.entries ≡ data_of_members (members_value done);
  below : members_weight (members_left l.key-iterator) ≤ members_weight (map_entries l.members);
}
