use Rattle.std.proofs.Common.{suc, ◌≤◌}
use Rattle.sdb_sorted_map.specs.Iter.{remaining_entries as members_left}
use Rattle.sdb_sorted_map.specs.SortedMap.{map_entries, entry_keys}
use Rattle.sdb_sorted_map.specs.KeyOrder.{IsAscending}
use Rattle.sdb_chunks.specs.ChunkedVec.{vec_items}
use Rattle.sdb_chunks.specs.Iter.{remaining_items}
use Rattle.sdb_value.specs.View.{items_value, list_value, members_value, object_value}
use Rattle.sdb_value.specs.WellFormed.{AreWellFormed, MembersWellFormed}
use Rattle.sdb_value.proofs.WeightLemmas.{term_weight, term_weights, members_weight}
use Rattle.sdb_value.proofs.laws.+well_formed.Given as goal

abbrev pub decreases-all_well_formed : goal.decreases-all_well_formed
decreases-all_well_formed l = term_weight l.value.now

abbrev pub decreases-items_well_formed : goal.decreases-items_well_formed
decreases-items_well_formed l = suc (term_weights (vec_items l.items.now))

abbrev pub decreases-members_well_formed : goal.decreases-members_well_formed
decreases-members_well_formed l = suc (members_weight (map_entries l.members.now))

-- if the rest is well formed, all is
abbrev pub invariant-items_well_formed-loop-item : goal.invariant-items_well_formed-loop-item
invariant-items_well_formed-loop-item l = record {
  well_formed : AreWellFormed (items_value (remaining_items l.item-iterator)) → AreWellFormed (list_value l.items);
  below : term_weights (remaining_items l.item-iterator) ≤ term_weights (vec_items l.items);
}

abbrev pub invariant-members_well_formed-loop-key : goal.invariant-members_well_formed-loop-key
invariant-members_well_formed-loop-key l = record {
  sorted : IsAscending (entry_keys (members_left l.key-iterator));
  well_formed : MembersWellFormed (members_value (members_left l.key-iterator)) → MembersWellFormed (object_value l.members);
  below : members_weight (members_left l.key-iterator) ≤ members_weight (map_entries l.members);
}
