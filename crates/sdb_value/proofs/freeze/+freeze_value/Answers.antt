use Rattle.std.proofs.Common.{◌≡◌, ◌<◌, length, refl, sym, ap, ◌∙◌, arith}
use Rattle.std.proofs.lemmas.List.{length-set}
use Rattle.std.proofs.lemmas.Result.{on_ok_weaker}
use Rattle.std.specs.List.{flat_map}
use Rattle.sdb_chunks.specs.Chunk.{items_of}
use Rattle.sdb_sorted_map.specs.SortedMap.{map_chunks}
use Rattle.sdb_chunks.specs.ChunkedVec.{vec_items, is_shared_repr, is_shared_vec}
use Rattle.sdb_chunks.specs.declared.chunked_vec.ChunkedVec.{ChunkedVec}
use Rattle.sdb_sorted_map.specs.declared.map_entry.MapEntry.{MapEntry}
use Rattle.sdb_value.specs.Size.{items_size, members_size}
use Rattle.sdb_value.specs.View.{entries_value, repr_value, items_of_group, members_of_group, items_value, member_repr_value}
use Rattle.sdb_value.specs.declared.value.Json.{Json}
use Rattle.sdb_value.proofs.CloneLemmas.{ascending_viewed, small_viewed}
use Rattle.sdb_value.proofs.FreezeLemmas.{group_parts, item_within, member_part_within, member_within, part_within, same_repr, same_item, same_member_repr, same_member_part, same_part, same_value}
use Rattle.sdb_value.proofs.freeze.+freeze_value.Goals as goal

-- ---- the list of groups

pub freeze_list_repr-returns-clause-items : goal.freeze_list_repr-returns-clause-items
freeze_list_repr-returns-clause-items t c = same_repr c.freeze_unique_chunks.new.repr c.freeze.new.self c.freeze.ensures.unchanged ∙ c.freeze_unique_chunks.ensures

pub freeze_unique_chunks-freeze_unique_groups-requires : goal.freeze_unique_chunks-freeze_unique_groups-requires
freeze_unique_chunks-freeze_unique_groups-requires t c =
    let gs = items_of c.in-Groups.groups in
    let same : items_size (repr_value c.args.repr.now) ≡ items_size (items_value (flat_map items_of_group gs)) =
    ap (λ w. items_size (repr_value w)) c.in-Groups.is ∙ ap (λ vs. items_size (items_value vs)) (group_parts gs) in
    (omega (arith, same, c.decreases), tt)

pub freeze_unique_chunks-returns-in-Groups : goal.freeze_unique_chunks-returns-in-Groups
freeze_unique_chunks-returns-in-Groups t c =
    ap items_value (group_parts (items_of c.freeze_unique_groups.new.groups)) ∙ c.freeze_unique_groups.ensures
    ∙ sym (ap repr_value c.in-Groups.is ∙ ap items_value (group_parts (items_of c.in-Groups.groups)))

-- ---- one group of several

pub freeze_each_group-freeze_group-requires : goal.freeze_each_group-freeze_group-requires
freeze_each_group-freeze_group-requires t c =
    let gs = c.loop-at.groups.items in
    let inside : c.loop-at.at < length gs = omega (arith, c.loop-at-test.true, c.len-at-end.ensures, c.loop-at.invariant.count) in
    let below = part_within items_of_group gs c.loop-at.at c.index_mut.result.now inside c.index_mut.ensures.value in
    let same : items_size (items_value (flat_map items_of_group gs)) ≡ items_size (items_value (flat_map items_of_group c.args.groups.now.items)) = ap items_size c.loop-at.invariant.same in
    (omega (arith, below, same, c.decreases), tt)

pub freeze_each_group-returns-in_err-freeze_group : goal.freeze_each_group-returns-in_err-freeze_group
freeze_each_group-returns-in_err-freeze_group t c =
    let gs = c.loop-at.groups.items in
    let inside : c.loop-at.at < length gs = omega (arith, c.loop-at-test.true, c.len-at-end.ensures, c.loop-at.invariant.count) in
    same_part items_of_group gs c.loop-at.at c.index_mut.result.now c.freeze_group.new.group inside c.index_mut.ensures.value c.freeze_group.ensures ∙ c.loop-at.invariant.same

pub freeze_each_group-loop-at-preserved : goal.freeze_each_group-loop-at-preserved
freeze_each_group-loop-at-preserved t c =
    let gs = c.loop-at.groups.items in
    let inside : c.loop-at.at < length gs = omega (arith, c.loop-at-test.true, c.len-at-end.ensures, c.loop-at.invariant.count) in
    record {
      same = same_part items_of_group gs c.loop-at.at c.index_mut.result.now c.freeze_group.new.group inside c.index_mut.ensures.value c.freeze_group.ensures ∙ c.loop-at.invariant.same;
      count = length-set gs c.loop-at.at c.freeze_group.new.group ∙ c.loop-at.invariant.count;
    }

-- ---- one chunk of several

pub freeze_each_chunk-freeze_chunk-requires : goal.freeze_each_chunk-freeze_chunk-requires
freeze_each_chunk-freeze_chunk-requires t c =
    let bs = c.loop-at.chunks.items in
    let inside : c.loop-at.at < length bs = omega (arith, c.loop-at-test.true, c.len-at-end.ensures, c.loop-at.invariant.count) in
    let below = part_within items_of bs c.loop-at.at c.index_mut.result.now inside c.index_mut.ensures.value in
    let same : items_size (items_value (flat_map items_of bs)) ≡ items_size (items_value (flat_map items_of c.args.chunks.now.items)) = ap items_size c.loop-at.invariant.same in
    (omega (arith, below, same, c.decreases), tt)

pub freeze_each_chunk-returns-in_err-freeze_chunk : goal.freeze_each_chunk-returns-in_err-freeze_chunk
freeze_each_chunk-returns-in_err-freeze_chunk t c =
    let bs = c.loop-at.chunks.items in
    let inside : c.loop-at.at < length bs = omega (arith, c.loop-at-test.true, c.len-at-end.ensures, c.loop-at.invariant.count) in
    same_part items_of bs c.loop-at.at c.index_mut.result.now c.freeze_chunk.new.chunk inside c.index_mut.ensures.value c.freeze_chunk.ensures.items ∙ c.loop-at.invariant.same

pub freeze_each_chunk-loop-at-preserved : goal.freeze_each_chunk-loop-at-preserved
freeze_each_chunk-loop-at-preserved t c =
    let bs = c.loop-at.chunks.items in
    let inside : c.loop-at.at < length bs = omega (arith, c.loop-at-test.true, c.len-at-end.ensures, c.loop-at.invariant.count) in
    record {
      same = same_part items_of bs c.loop-at.at c.index_mut.result.now c.freeze_chunk.new.chunk inside c.index_mut.ensures.value c.freeze_chunk.ensures.items ∙ c.loop-at.invariant.same;
      count = length-set bs c.loop-at.at c.freeze_chunk.new.chunk ∙ c.loop-at.invariant.count;
    }

-- ---- one item of several

pub freeze_each_item-freeze_value-requires : goal.freeze_each_item-freeze_value-requires
freeze_each_item-freeze_value-requires t c =
    let vs = c.loop-at.items.items in
    let inside : c.loop-at.at < length vs = omega (arith, c.loop-at-test.true, c.len-at-end.ensures, c.loop-at.invariant.count) in
    let below = item_within vs c.loop-at.at c.index_mut.result.now inside c.index_mut.ensures.value in
    let same : items_size (items_value vs) ≡ items_size (items_value c.args.items.now.items) = ap items_size c.loop-at.invariant.same in
    (omega (arith, below, same, c.decreases), tt)

pub freeze_each_item-returns-in_err-freeze_value : goal.freeze_each_item-returns-in_err-freeze_value
freeze_each_item-returns-in_err-freeze_value t c =
    let vs = c.loop-at.items.items in
    let inside : c.loop-at.at < length vs = omega (arith, c.loop-at-test.true, c.len-at-end.ensures, c.loop-at.invariant.count) in
    same_item vs c.loop-at.at c.index_mut.result.now c.freeze_value.new.value inside c.index_mut.ensures.value c.freeze_value.ensures.value ∙ c.loop-at.invariant.same

pub freeze_each_item-loop-at-preserved : goal.freeze_each_item-loop-at-preserved
freeze_each_item-loop-at-preserved t c =
    let vs = c.loop-at.items.items in
    let inside : c.loop-at.at < length vs = omega (arith, c.loop-at-test.true, c.len-at-end.ensures, c.loop-at.invariant.count) in
    record {
      same = same_item vs c.loop-at.at c.index_mut.result.now c.freeze_value.new.value inside c.index_mut.ensures.value c.freeze_value.ensures.value ∙ c.loop-at.invariant.same;
      count = length-set vs c.loop-at.at c.freeze_value.new.value ∙ c.loop-at.invariant.count;
    }

-- ---- the members of an object

pub freeze_member_repr-returns-clause-members_unchanged : goal.freeze_member_repr-returns-clause-members_unchanged
freeze_member_repr-returns-clause-members_unchanged t c = same_member_repr c.freeze_unique_member_chunks.new.repr c.freeze.new.self c.freeze.ensures.unchanged ∙ c.freeze_unique_member_chunks.ensures

pub freeze_unique_member_chunks-freeze_unique_member_groups-requires : goal.freeze_unique_member_chunks-freeze_unique_member_groups-requires
freeze_unique_member_chunks-freeze_unique_member_groups-requires t c =
    let gs = items_of c.in-Groups.groups in
    let same : members_size (member_repr_value c.args.repr.now) ≡ members_size (entries_value (flat_map members_of_group gs)) =
    ap (λ w. members_size (member_repr_value w)) c.in-Groups.is ∙ ap (λ vs. members_size (entries_value vs)) (group_parts gs) in
    (omega (arith, same, c.decreases), tt)

pub freeze_unique_member_chunks-returns-in-Groups : goal.freeze_unique_member_chunks-returns-in-Groups
freeze_unique_member_chunks-returns-in-Groups t c =
    ap entries_value (group_parts (items_of c.freeze_unique_member_groups.new.groups)) ∙ c.freeze_unique_member_groups.ensures
    ∙ sym (ap member_repr_value c.in-Groups.is ∙ ap entries_value (group_parts (items_of c.in-Groups.groups)))

-- ---- one group of members

pub freeze_each_member_group-freeze_member_group-requires : goal.freeze_each_member_group-freeze_member_group-requires
freeze_each_member_group-freeze_member_group-requires t c =
    let gs = c.loop-at.groups.items in
    let inside : c.loop-at.at < length gs = omega (arith, c.loop-at-test.true, c.len-at-end.ensures, c.loop-at.invariant.count) in
    let below = member_part_within members_of_group gs c.loop-at.at c.index_mut.result.now inside c.index_mut.ensures.value in
    let same : members_size (entries_value (flat_map members_of_group gs)) ≡ members_size (entries_value (flat_map members_of_group c.args.groups.now.items)) = ap members_size c.loop-at.invariant.same in
    (omega (arith, below, same, c.decreases), tt)

pub freeze_each_member_group-returns-in_err-freeze_member_group : goal.freeze_each_member_group-returns-in_err-freeze_member_group
freeze_each_member_group-returns-in_err-freeze_member_group t c =
    let gs = c.loop-at.groups.items in
    let inside : c.loop-at.at < length gs = omega (arith, c.loop-at-test.true, c.len-at-end.ensures, c.loop-at.invariant.count) in
    same_member_part members_of_group gs c.loop-at.at c.index_mut.result.now c.freeze_member_group.new.group inside c.index_mut.ensures.value c.freeze_member_group.ensures ∙ c.loop-at.invariant.same

pub freeze_each_member_group-loop-at-preserved : goal.freeze_each_member_group-loop-at-preserved
freeze_each_member_group-loop-at-preserved t c =
    let gs = c.loop-at.groups.items in
    let inside : c.loop-at.at < length gs = omega (arith, c.loop-at-test.true, c.len-at-end.ensures, c.loop-at.invariant.count) in
    record {
      same = same_member_part members_of_group gs c.loop-at.at c.index_mut.result.now c.freeze_member_group.new.group inside c.index_mut.ensures.value c.freeze_member_group.ensures ∙ c.loop-at.invariant.same;
      count = length-set gs c.loop-at.at c.freeze_member_group.new.group ∙ c.loop-at.invariant.count;
    }

-- ---- one chunk of members

pub freeze_each_member_chunk-freeze_member_chunk-requires : goal.freeze_each_member_chunk-freeze_member_chunk-requires
freeze_each_member_chunk-freeze_member_chunk-requires t c =
    let bs = c.loop-at.chunks.items in
    let inside : c.loop-at.at < length bs = omega (arith, c.loop-at-test.true, c.len-at-end.ensures, c.loop-at.invariant.count) in
    let below = member_part_within items_of bs c.loop-at.at c.index_mut.result.now inside c.index_mut.ensures.value in
    let same : members_size (entries_value (flat_map items_of bs)) ≡ members_size (entries_value (flat_map items_of c.args.chunks.now.items)) = ap members_size c.loop-at.invariant.same in
    (omega (arith, below, same, c.decreases), tt)

pub freeze_each_member_chunk-returns-in_err-freeze_member_chunk : goal.freeze_each_member_chunk-returns-in_err-freeze_member_chunk
freeze_each_member_chunk-returns-in_err-freeze_member_chunk t c =
    let bs = c.loop-at.chunks.items in
    let inside : c.loop-at.at < length bs = omega (arith, c.loop-at-test.true, c.len-at-end.ensures, c.loop-at.invariant.count) in
    same_member_part items_of bs c.loop-at.at c.index_mut.result.now c.freeze_member_chunk.new.chunk inside c.index_mut.ensures.value c.freeze_member_chunk.ensures.members_unchanged ∙ c.loop-at.invariant.same

pub freeze_each_member_chunk-loop-at-preserved : goal.freeze_each_member_chunk-loop-at-preserved
freeze_each_member_chunk-loop-at-preserved t c =
    let bs = c.loop-at.chunks.items in
    let inside : c.loop-at.at < length bs = omega (arith, c.loop-at-test.true, c.len-at-end.ensures, c.loop-at.invariant.count) in
    record {
      same = same_member_part items_of bs c.loop-at.at c.index_mut.result.now c.freeze_member_chunk.new.chunk inside c.index_mut.ensures.value c.freeze_member_chunk.ensures.members_unchanged ∙ c.loop-at.invariant.same;
      count = length-set bs c.loop-at.at c.freeze_member_chunk.new.chunk ∙ c.loop-at.invariant.count;
    }

-- ---- one value of members

pub freeze_each_value-freeze_value-requires : goal.freeze_each_value-freeze_value-requires
freeze_each_value-freeze_value-requires t c =
    let vs = c.loop-at.members.items in
    let inside : c.loop-at.at < length vs = omega (arith, c.loop-at-test.true, c.len-at-end.ensures, c.loop-at.invariant.count) in
    let below = member_within vs c.loop-at.at c.index_mut.result.now inside c.index_mut.ensures.value in
    let same : members_size (entries_value vs) ≡ members_size (entries_value c.args.members.now.items) = ap members_size c.loop-at.invariant.same in
    (omega (arith, below, same, c.decreases), tt)

pub freeze_each_value-returns-in_err-freeze_value : goal.freeze_each_value-returns-in_err-freeze_value
freeze_each_value-returns-in_err-freeze_value t c =
    let vs = c.loop-at.members.items in
    let inside : c.loop-at.at < length vs = omega (arith, c.loop-at-test.true, c.len-at-end.ensures, c.loop-at.invariant.count) in
    same_value vs c.loop-at.at c.index_mut.result.now (record { key = c.index_mut.result.now.key; value = c.freeze_value.new.value }) inside c.index_mut.ensures.value refl c.freeze_value.ensures.value ∙ c.loop-at.invariant.same

pub freeze_each_value-loop-at-preserved : goal.freeze_each_value-loop-at-preserved
freeze_each_value-loop-at-preserved t c =
    let vs = c.loop-at.members.items in
    let inside : c.loop-at.at < length vs = omega (arith, c.loop-at-test.true, c.len-at-end.ensures, c.loop-at.invariant.count) in
    record {
      same = same_value vs c.loop-at.at c.index_mut.result.now (record { key = c.index_mut.result.now.key; value = c.freeze_value.new.value }) inside c.index_mut.ensures.value refl c.freeze_value.ensures.value ∙ c.loop-at.invariant.same;
      count = length-set vs c.loop-at.at (record { key = c.index_mut.result.now.key; value = c.freeze_value.new.value }) ∙ c.loop-at.invariant.count;
    }

-- ---- put back

pub freeze_members-from_entries-requires-clause-bound : goal.freeze_members-from_entries-requires-clause-bound
freeze_members-from_entries-requires-clause-bound t c =
    small_viewed c.into_chunks.result c.from_repr.result
    (ap member_repr_value c.from_repr.ensures ∙ c.freeze_member_repr-done.ensures.members_unchanged ∙ ap member_repr_value c.into_repr-repr.ensures) c.into_chunks.ensures.bound

pub freeze_members-from_entries-requires-clause-ascending : goal.freeze_members-from_entries-requires-clause-ascending
freeze_members-from_entries-requires-clause-ascending t c =
    ascending_viewed c.into_chunks.result c.from_repr.result
    (ap member_repr_value c.from_repr.ensures ∙ c.freeze_member_repr-done.ensures.members_unchanged ∙ ap member_repr_value c.into_repr-repr.ensures) c.into_chunks.ensures.ascending

pub freeze_members-returns-clause-members_unchanged : goal.freeze_members-returns-clause-members_unchanged
freeze_members-returns-clause-members_unchanged t c =
    ap (λ (q : ChunkedVec (MapEntry Json)). entries_value (vec_items q)) c.from_entries.ensures ∙ ap member_repr_value c.from_repr.ensures ∙ c.freeze_member_repr-done.ensures.members_unchanged
    ∙ ap member_repr_value c.into_repr-repr.ensures ∙ ap (λ (q : ChunkedVec (MapEntry Json)). entries_value (vec_items q)) (c.into_chunks.ensures.equal ∙ ap map_chunks c.replace.ensures.value)

pub freeze_members-returns-clause-shared : goal.freeze_members-returns-clause-shared
freeze_members-returns-clause-shared t c =
    on_ok_weaker c.freeze_member_repr-done.result (λ h. ap is_shared_vec c.from_entries.ensures ∙ ap is_shared_repr c.from_repr.ensures ∙ h) c.freeze_member_repr-done.ensures.shared
