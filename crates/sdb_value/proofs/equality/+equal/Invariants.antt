use Rattle.std.proofs.Common.{◌≡◌, suc, ◌≤◌}
use Rattle.sdb_sorted_map.specs.Iter.{remaining_entries as members_left}
use Rattle.sdb_sorted_map.specs.SortedMap.{map_entries}
use Rattle.sdb_chunks.specs.Iter.{remaining_items}
use Rattle.sdb_value.specs.View.{items_value, list_value, members_value, object_value}
use Rattle.sdb_chunks.specs.ChunkedVec.{vec_items}
use Rattle.sdb_value.proofs.WeightLemmas.{term_weight, term_weights, members_weight}
use Rattle.sdb_value.proofs.equality.+equal.Given as goal

abbrev pub decreases-equal : goal.decreases-equal
decreases-equal l = term_weight l.a.now

abbrev pub decreases-items_equal : goal.decreases-items_equal
decreases-items_equal l = suc (term_weights (vec_items l.a.now))

abbrev pub decreases-members_equal : goal.decreases-members_equal
decreases-members_equal l = suc (members_weight (map_entries l.a.now))

abbrev pub invariant-items_equal-loop-item : goal.invariant-items_equal-loop-item
invariant-items_equal-loop-item l = record {
  same : items_value (remaining_items l.item-iterator) ≡ items_value (remaining_items l.others) → list_value l.a ≡ list_value l.b;
  other : list_value l.a ≡ list_value l.b → items_value (remaining_items l.item-iterator) ≡ items_value (remaining_items l.others);
  below : term_weights (remaining_items l.item-iterator) ≤ term_weights (vec_items l.a);
}

abbrev pub invariant-members_equal-loop-key : goal.invariant-members_equal-loop-key
invariant-members_equal-loop-key l = record {
  same : members_value (members_left l.key-iterator) ≡ members_value (members_left l.others) → object_value l.a ≡ object_value l.b;
  other : object_value l.a ≡ object_value l.b → members_value (members_left l.key-iterator) ≡ members_value (members_left l.others);
  below : members_weight (members_left l.key-iterator) ≤ members_weight (map_entries l.a);
}
