use Rattle.std.proofs.Common.{◌≡◌, suc, ◌≤◌, List, ◌++◌}
use Rattle.sdb_sorted_map.specs.Iter.{remaining_entries as members_left}
use Rattle.sdb_sorted_map.specs.SortedMap.{map_entries}
use Rattle.sdb_chunks.specs.Iter.{remaining_items}
use Rattle.json.specs.Token.{Token}
use Rattle.sdb_value.specs.ToJson.{array_tail_tokens, object_tail_tokens}
use Rattle.sdb_value.specs.FromJson.{data_of_items, data_of_members}
use Rattle.sdb_value.specs.View.{items_value, list_value, members_value, object_value}
use Rattle.sdb_chunks.specs.ChunkedVec.{vec_items}
use Rattle.sdb_value.proofs.WeightLemmas.{term_weight, term_weights, members_weight}
use Rattle.sdb_value.proofs.write.+write_json.Given as goal

abbrev pub decreases-write_json : goal.decreases-write_json
decreases-write_json l = term_weight l.value.now

abbrev pub decreases-write_items : goal.decreases-write_items
decreases-write_items l = suc (term_weights (vec_items l.items.now))

abbrev pub decreases-write_members : goal.decreases-write_members
decreases-write_members l = suc (members_weight (map_entries l.members.now))

-- the written part and the rest are the whole
abbrev pub invariant-write_items-loop-item : goal.invariant-write_items-loop-item
invariant-write_items-loop-item l = record {
  before : l.out.before ≡ l.initial.out.before;
  whole : l.out.tokens ++ array_tail_tokens (data_of_items (items_value (remaining_items l.item-iterator))) ≡ l.initial.out.tokens ++ array_tail_tokens (data_of_items (list_value l.items));
  done : List Token;
  split : array_tail_tokens (data_of_items (list_value l.items)) ≡ done ++ array_tail_tokens (data_of_items (items_value (remaining_items l.item-iterator)));
  written : l.out.tokens ≡ l.initial.out.tokens ++ done;
  below : term_weights (remaining_items l.item-iterator) ≤ term_weights (vec_items l.items);
}

abbrev pub invariant-write_members-loop-key : goal.invariant-write_members-loop-key
invariant-write_members-loop-key l = record {
  before : l.out.before ≡ l.initial.out.before;
  whole : l.out.tokens ++ object_tail_tokens (data_of_members (members_value (members_left l.key-iterator))) ≡ l.initial.out.tokens ++ object_tail_tokens (data_of_members (object_value l.members));
  done : List Token;
  split : object_tail_tokens (data_of_members (object_value l.members)) ≡ done ++ object_tail_tokens (data_of_members (members_value (members_left l.key-iterator)));
  written : l.out.tokens ≡ l.initial.out.tokens ++ done;
  below : members_weight (members_left l.key-iterator) ≤ members_weight (map_entries l.members);
}
