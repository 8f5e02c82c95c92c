use Rattle.std.proofs.Common.{◌≡◌, ◌+◌, ◌*◌, length}
use Rattle.std.specs.List.{flat_map}
use Rattle.sdb_chunks.specs.Chunk.{items_of}
use Rattle.sdb_value.specs.Size.{size, items_size, members_size}
use Rattle.sdb_value.specs.View.{value_of, entries_value, repr_value, items_of_group, members_of_group, items_value, list_value, member_repr_value, object_value}
use Rattle.sdb_value.proofs.freeze.+freeze_value.Given as goal

abbrev pub decreases-freeze_value : goal.decreases-freeze_value
decreases-freeze_value l = 20 * size (value_of l.value.now) + 1

abbrev pub decreases-freeze_list_parts : goal.decreases-freeze_list_parts
decreases-freeze_list_parts l = 20 * size (value_of l.value.now)

abbrev pub decreases-freeze_list : goal.decreases-freeze_list
decreases-freeze_list l = 20 * items_size (list_value l.items.now) + 14

abbrev pub decreases-freeze_list_repr : goal.decreases-freeze_list_repr
decreases-freeze_list_repr l = 20 * items_size (repr_value l.repr.now) + 13

abbrev pub decreases-freeze_unique_chunks : goal.decreases-freeze_unique_chunks
decreases-freeze_unique_chunks l = 20 * items_size (repr_value l.repr.now) + 12

abbrev pub decreases-freeze_unique_groups : goal.decreases-freeze_unique_groups
decreases-freeze_unique_groups l = 20 * items_size (items_value (flat_map items_of_group (items_of l.groups.now))) + 11

abbrev pub decreases-freeze_each_group : goal.decreases-freeze_each_group
decreases-freeze_each_group l = 20 * items_size (items_value (flat_map items_of_group l.groups.now.items)) + 10

abbrev pub decreases-freeze_group : goal.decreases-freeze_group
decreases-freeze_group l = 20 * items_size (items_value (items_of_group l.group.now)) + 9

abbrev pub decreases-freeze_unique_group_chunks : goal.decreases-freeze_unique_group_chunks
decreases-freeze_unique_group_chunks l = 20 * items_size (items_value (flat_map items_of (items_of l.chunks.now))) + 8

abbrev pub decreases-freeze_each_chunk : goal.decreases-freeze_each_chunk
decreases-freeze_each_chunk l = 20 * items_size (items_value (flat_map items_of l.chunks.now.items)) + 7

abbrev pub decreases-freeze_chunk : goal.decreases-freeze_chunk
decreases-freeze_chunk l = 20 * items_size (items_value (items_of l.chunk.now)) + 6

abbrev pub decreases-freeze_unique_items : goal.decreases-freeze_unique_items
decreases-freeze_unique_items l = 20 * items_size (items_value (items_of l.chunk.now)) + 5

abbrev pub decreases-freeze_each_item : goal.decreases-freeze_each_item
decreases-freeze_each_item l = 20 * items_size (items_value l.items.now.items) + 4

abbrev pub decreases-freeze_members : goal.decreases-freeze_members
decreases-freeze_members l = 20 * members_size (object_value l.members.now) + 14

abbrev pub decreases-freeze_member_repr : goal.decreases-freeze_member_repr
decreases-freeze_member_repr l = 20 * members_size (member_repr_value l.repr.now) + 13

abbrev pub decreases-freeze_unique_member_chunks : goal.decreases-freeze_unique_member_chunks
decreases-freeze_unique_member_chunks l = 20 * members_size (member_repr_value l.repr.now) + 12

abbrev pub decreases-freeze_unique_member_groups : goal.decreases-freeze_unique_member_groups
decreases-freeze_unique_member_groups l = 20 * members_size (entries_value (flat_map members_of_group (items_of l.groups.now))) + 11

abbrev pub decreases-freeze_each_member_group : goal.decreases-freeze_each_member_group
decreases-freeze_each_member_group l = 20 * members_size (entries_value (flat_map members_of_group l.groups.now.items)) + 10

abbrev pub decreases-freeze_member_group : goal.decreases-freeze_member_group
decreases-freeze_member_group l = 20 * members_size (entries_value (members_of_group l.group.now)) + 9

abbrev pub decreases-freeze_unique_member_group_chunks : goal.decreases-freeze_unique_member_group_chunks
decreases-freeze_unique_member_group_chunks l = 20 * members_size (entries_value (flat_map items_of (items_of l.chunks.now))) + 8

abbrev pub decreases-freeze_each_member_chunk : goal.decreases-freeze_each_member_chunk
decreases-freeze_each_member_chunk l = 20 * members_size (entries_value (flat_map items_of l.chunks.now.items)) + 7

abbrev pub decreases-freeze_member_chunk : goal.decreases-freeze_member_chunk
decreases-freeze_member_chunk l = 20 * members_size (entries_value (items_of l.chunk.now)) + 6

abbrev pub decreases-freeze_unique_members : goal.decreases-freeze_unique_members
decreases-freeze_unique_members l = 20 * members_size (entries_value (items_of l.chunk.now)) + 5

abbrev pub decreases-freeze_each_value : goal.decreases-freeze_each_value
decreases-freeze_each_value l = 20 * members_size (entries_value l.members.now.items) + 4

abbrev pub invariant-freeze_each_group-loop-at : goal.invariant-freeze_each_group-loop-at
invariant-freeze_each_group-loop-at l = record {
  same : items_value (flat_map items_of_group l.groups.items) ≡ items_value (flat_map items_of_group l.initial.groups.items);
  count : length l.groups.items ≡ length l.initial.groups.items;
}

abbrev pub invariant-freeze_each_chunk-loop-at : goal.invariant-freeze_each_chunk-loop-at
invariant-freeze_each_chunk-loop-at l = record {
  same : items_value (flat_map items_of l.chunks.items) ≡ items_value (flat_map items_of l.initial.chunks.items);
  count : length l.chunks.items ≡ length l.initial.chunks.items;
}

abbrev pub invariant-freeze_each_item-loop-at : goal.invariant-freeze_each_item-loop-at
invariant-freeze_each_item-loop-at l = record {
  same : items_value l.items.items ≡ items_value l.initial.items.items;
  count : length l.items.items ≡ length l.initial.items.items;
}

abbrev pub invariant-freeze_each_member_group-loop-at : goal.invariant-freeze_each_member_group-loop-at
invariant-freeze_each_member_group-loop-at l = record {
  same : entries_value (flat_map members_of_group l.groups.items) ≡ entries_value (flat_map members_of_group l.initial.groups.items);
  count : length l.groups.items ≡ length l.initial.groups.items;
}

abbrev pub invariant-freeze_each_member_chunk-loop-at : goal.invariant-freeze_each_member_chunk-loop-at
invariant-freeze_each_member_chunk-loop-at l = record {
  same : entries_value (flat_map items_of l.chunks.items) ≡ entries_value (flat_map items_of l.initial.chunks.items);
  count : length l.chunks.items ≡ length l.initial.chunks.items;
}

abbrev pub invariant-freeze_each_value-loop-at : goal.invariant-freeze_each_value-loop-at
invariant-freeze_each_value-loop-at l = record {
  same : entries_value l.members.items ≡ entries_value l.initial.members.items;
  count : length l.members.items ≡ length l.initial.members.items;
}
