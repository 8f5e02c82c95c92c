use Rattle.std.proofs.Common.{◌≡◌, suc, ◌+◌, ◌-◌, ◌≤◌, min}
use Rattle.sdb_sorted_map.specs.Iter.{remaining_entries as members_left}
use Rattle.sdb_sorted_map.specs.SortedMap.{map_entries}
use Rattle.sdb_chunks.specs.Iter.{remaining_items}
use Rattle.sdb_value.specs.Size.{items_size, members_size}
use Rattle.sdb_value.specs.View.{items_value, list_value, members_value, object_value}
use Rattle.sdb_chunks.specs.ChunkedVec.{vec_items}
use Rattle.sdb_value.proofs.WeightLemmas.{term_weight, term_weights, members_weight}
use Rattle.sdb_value.proofs.depth_and_size.+sizes.Given as goal

abbrev pub decreases-size_of : goal.decreases-size_of
decreases-size_of l = term_weight l.value.now

abbrev pub decreases-items_size : goal.decreases-items_size
decreases-items_size l = suc (term_weights (vec_items l.items.now))

abbrev pub decreases-members_size : goal.decreases-members_size
decreases-members_size l = suc (members_weight (map_entries l.members.now))

-- the size so far and the rest up to the limit
abbrev pub invariant-items_size-loop-item : goal.invariant-items_size-loop-item
invariant-items_size-loop-item l = record {
  within : l.left ≤ l.limit;
  counted : min l.limit (items_size (list_value l.items)) ≡ (l.limit - l.left) + min l.left (items_size (items_value (remaining_items l.item-iterator)));
  below : term_weights (remaining_items l.item-iterator) ≤ term_weights (vec_items l.items);
}

abbrev pub invariant-members_size-loop-key : goal.invariant-members_size-loop-key
invariant-members_size-loop-key l = record {
  within : l.left ≤ l.limit;
  counted : min l.limit (members_size (object_value l.members)) ≡ (l.limit - l.left) + min l.left (members_size (members_value (members_left l.key-iterator)));
  below : members_weight (members_left l.key-iterator) ≤ members_weight (map_entries l.members);
}
