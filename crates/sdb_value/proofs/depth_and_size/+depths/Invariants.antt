use Rattle.std.proofs.Common.{◌≡◌, ◌≤◌, suc, min, max}
use Rattle.sdb_sorted_map.specs.Iter.{remaining_entries as members_left}
use Rattle.sdb_sorted_map.specs.SortedMap.{map_entries}
use Rattle.sdb_chunks.specs.Iter.{remaining_items}
use Rattle.sdb_chunks.specs.ChunkedVec.{vec_items}
use Rattle.sdb_value.specs.Value.{items_depth, members_depth}
use Rattle.sdb_value.specs.View.{items_value, list_value, members_value, object_value}
use Rattle.sdb_value.proofs.WeightLemmas.{term_weight, term_weights, members_weight}
use Rattle.sdb_value.proofs.depth_and_size.+depths.Given as goal

abbrev pub decreases-depth_of : goal.decreases-depth_of
decreases-depth_of l = term_weight l.value.now

abbrev pub decreases-items_depth : goal.decreases-items_depth
decreases-items_depth l = suc (term_weights (vec_items l.items.now))

abbrev pub decreases-members_depth : goal.decreases-members_depth
decreases-members_depth l = suc (members_weight (map_entries l.members.now))

abbrev pub invariant-items_depth-loop-item : goal.invariant-items_depth-loop-item
invariant-items_depth-loop-item l = record {
  deep : max l.deepest (min (items_depth (items_value (remaining_items l.item-iterator))) 18446744073709551615) ≡ min (items_depth (list_value l.items)) 18446744073709551615;
  below : term_weights (remaining_items l.item-iterator) ≤ term_weights (vec_items l.items);
}

abbrev pub invariant-members_depth-loop-key : goal.invariant-members_depth-loop-key
invariant-members_depth-loop-key l = record {
  deep : max l.deepest (min (members_depth (members_value (members_left l._key-iterator))) 18446744073709551615) ≡ min (members_depth (object_value l.members)) 18446744073709551615;
  below : members_weight (members_left l._key-iterator) ≤ members_weight (map_entries l.members);
}
