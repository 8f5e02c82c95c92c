use Rattle.std.proofs.Common.{◌≡◌, ◌+◌, ◌*◌, ◌≤◌, List, ◌++◌, take, map, true}
use Rattle.std.specs.List.{flat_map}
use Rattle.sdb_chunks.specs.Chunk.{items_of}
use Rattle.sdb_chunks.specs.Iter.{remaining_chunks}
use Rattle.sdb_chunks.specs.declared.chunk.Chunk.{Chunk}
use Rattle.sdb_chunks.specs.ChunkedVec.{all_shared, vec_chunks, vec_items}
use Rattle.sdb_sorted_map.specs.SortedMap.{map_entries}
use Rattle.sdb_sorted_map.specs.declared.map_entry.MapEntry.{MapEntry}
use Rattle.sdb_value.specs.CloneModes.{HasUniquenessOfMode, are_deep_unique_chunks, are_deep_unique_member_chunks}
use Rattle.sdb_value.specs.Uniqueness.{items_unique, members_unique}
use Rattle.sdb_value.specs.View.{value_of, entries_value, items_value}
use Rattle.sdb_value.specs.declared.value.Json.{Json}
use Rattle.sdb_value.proofs.WeightLemmas.{term_weight, term_weights, members_weight, entries_weight}
use Rattle.sdb_value.proofs.clone_modes.+copy.Given as goal

abbrev pub decreases-copy : goal.decreases-copy
decreases-copy l = 8 * term_weight l.value.now

abbrev pub decreases-clone_members : goal.decreases-clone_members
decreases-clone_members l = 8 * members_weight (map_entries l.members.now) + 5

abbrev pub decreases-clone_member_chunks : goal.decreases-clone_member_chunks
decreases-clone_member_chunks l = 8 * entries_weight (vec_items l.entries.now) + 4

abbrev pub decreases-clone_member_chunk : goal.decreases-clone_member_chunk
decreases-clone_member_chunk l = 8 * entries_weight (items_of l.chunk.now) + 3

abbrev pub decreases-clone_each_member : goal.decreases-clone_each_member
decreases-clone_each_member l = 8 * entries_weight l.members.now + 2

abbrev pub decreases-clone_list : goal.decreases-clone_list
decreases-clone_list l = 8 * term_weights (vec_items l.items.now) + 5

abbrev pub decreases-clone_chunks : goal.decreases-clone_chunks
decreases-clone_chunks l = 8 * term_weights (vec_items l.items.now) + 4

abbrev pub decreases-clone_chunk : goal.decreases-clone_chunk
decreases-clone_chunk l = 8 * term_weights (items_of l.chunk.now) + 3

abbrev pub decreases-clone_items : goal.decreases-clone_items
decreases-clone_items l = 8 * term_weights l.items.now + 2

abbrev pub invariant-clone_items-loop-item : goal.invariant-clone_items-loop-item
invariant-clone_items-loop-item l = record {
  values : map value_of l.copies.items ≡ map value_of (take l.item-index l.items);
  own : HasUniquenessOfMode l.mode (items_unique (take l.item-index l.items)) (items_unique l.copies.items) true;
}

abbrev pub invariant-clone_chunks-loop-chunk : goal.invariant-clone_chunks-loop-chunk
invariant-clone_chunks-loop-chunk l = record {
  done : List (Chunk Json);
  split : vec_chunks l.items ≡ done ++ remaining_chunks l.chunk-iterator;
  values : items_value (flat_map items_of l.copies.items) ≡ items_value (flat_map items_of done);
  own : HasUniquenessOfMode l.mode (are_deep_unique_chunks done) (are_deep_unique_chunks l.copies.items) (all_shared l.copies.items);
  below : term_weights (flat_map items_of (remaining_chunks l.chunk-iterator)) ≤ term_weights (vec_items l.items);
}

abbrev pub invariant-clone_each_member-loop-member : goal.invariant-clone_each_member-loop-member
invariant-clone_each_member-loop-member l = record {
  members : entries_value l.copies.items ≡ entries_value (take l.member-index l.members);
  own : HasUniquenessOfMode l.mode (members_unique (take l.member-index l.members)) (members_unique l.copies.items) true;
}

abbrev pub invariant-clone_member_chunks-loop-chunk : goal.invariant-clone_member_chunks-loop-chunk
invariant-clone_member_chunks-loop-chunk l = record {
  done : List (Chunk (MapEntry Json));
  split : vec_chunks l.entries ≡ done ++ remaining_chunks l.chunk-iterator;
  members : entries_value (flat_map items_of l.copies.items) ≡ entries_value (flat_map items_of done);
  own : HasUniquenessOfMode l.mode (are_deep_unique_member_chunks done) (are_deep_unique_member_chunks l.copies.items) (all_shared l.copies.items);
  below : entries_weight (flat_map items_of (remaining_chunks l.chunk-iterator)) ≤ entries_weight (vec_items l.entries);
}
