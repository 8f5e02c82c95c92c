use Rattle.std.proofs.Common.{◌≡◌, List, true, false, [], ◌∷◌, ◌++◌, ◌+◌, suc, take, map, sym, ap, ◌∙◌, subst, append_assoc, arith}
use Rattle.std.proofs.lemmas.List.{append-nil, take_all, take_more}
use Rattle.std.specs.List.{flat_map}
use Rattle.sdb_chunks.specs.Chunk.{items_of}
use Rattle.sdb_chunks.specs.declared.chunk.Chunk.{Chunk}
use Rattle.sdb_value.specs.declared.value.Json.{Json}
use Rattle.sdb_chunks.specs.Iter.{remaining_chunks}
use Rattle.sdb_chunks.specs.ChunkedVec.{all_shared, vec_chunks, vec_items, is_grouped, is_shared_vec}
use Rattle.sdb_chunks.specs.declared.chunked_vec.ChunkedVec.{ChunkedVec}
use Rattle.sdb_sorted_map.specs.SortedMap.{map_entries, map_chunks}
use Rattle.sdb_sorted_map.specs.declared.map_entry.MapEntry.{MapEntry}
use Rattle.sdb_value.specs.CloneModes.{HasUniquenessOfMode, are_deep_unique_chunks, are_deep_unique_member_chunks}
use Rattle.sdb_value.specs.Uniqueness.{entries_unique, is_unique, is_frozen, items_unique, list_unique, object_unique, members_unique}
use Rattle.sdb_value.specs.View.{value_of, entries_value, items_value}
use Rattle.sdb_value.proofs.CloneLemmas.{value_list, copied_list, value_object, copied_object, by_mode, in_groups_unique, shared_list_unique, chunk_pointed, made_of_chunks, made_view, items_more, entries_more, entry_more, chunks_copied_more, items_copied_more, not_found, same_member, view_more, value_own, small_viewed, ascending_viewed}
use Rattle.sdb_value.proofs.WeightLemmas.{chunks_below, first_fits, first_part_fits, item_fits, member_fits, members_weight, entries_weight, parts_below, weigh_list, weigh_object, term_weight, term_weights}
use Rattle.sdb_value.proofs.clone_modes.+copy.Goals as goal

pub copy-returns-in_ok-clone_list-in-List-clause-value : goal.copy-returns-in_ok-clone_list-in-List-clause-value
copy-returns-in_ok-clone_list-in-List-clause-value t c =
    value_list c.args.value.now c.in-List.items c.in_ok-clone_list-in-List.field-0 c.in-List.is c.in_ok-clone_list-in-List.ensures.items

pub copy-returns-in_ok-clone_list-in-List-clause-unique : goal.copy-returns-in_ok-clone_list-in-List-clause-unique
copy-returns-in_ok-clone_list-in-List-clause-unique t c =
    copied_list c.args.mode c.args.value.now c.in-List.items c.in_ok-clone_list-in-List.field-0 c.in-List.is c.in_ok-clone_list-in-List.ensures.unique

pub copy-returns-in_ok-clone_members-in-Object-clause-value : goal.copy-returns-in_ok-clone_members-in-Object-clause-value
copy-returns-in_ok-clone_members-in-Object-clause-value t c =
    value_object c.args.value.now c.in-Object.members c.in_ok-clone_members-in-Object.field-0 c.in-Object.is c.in_ok-clone_members-in-Object.ensures.members

pub copy-returns-in_ok-clone_members-in-Object-clause-unique : goal.copy-returns-in_ok-clone_members-in-Object-clause-unique
copy-returns-in_ok-clone_members-in-Object-clause-unique t c =
    copied_object c.args.mode c.args.value.now c.in-Object.members c.in_ok-clone_members-in-Object.field-0 c.in-Object.is c.in_ok-clone_members-in-Object.ensures.unique

-- ---- the measure of a clone

pub copy-clone_list-requires : goal.copy-clone_list-requires
copy-clone_list-requires t c =
    let here : term_weight c.args.value.now ≡ suc (suc (term_weights (vec_items c.in-List.items))) = ap term_weight c.in-List.is ∙ weigh_list c.in-List.items in
    (omega (arith, here, c.decreases), tt)

pub copy-clone_members-requires : goal.copy-clone_members-requires
copy-clone_members-requires t c =
    let here : term_weight c.args.value.now ≡ suc (suc (members_weight (map_entries c.in-Object.members))) = ap term_weight c.in-Object.is ∙ weigh_object c.in-Object.members in
    (omega (arith, here, c.decreases), tt)

pub clone_chunks-clone_chunk-requires : goal.clone_chunks-clone_chunk-requires
clone_chunks-clone_chunk-requires t c =
    let here = first_fits _ (remaining_chunks c.next.new.self) c.in-Some.chunk.now c.in-Some.ensures.steps in
    (omega (arith, here, c.loop-chunk.invariant.below, c.decreases), tt)

pub clone_chunk-clone_items-requires : goal.clone_chunk-clone_items-requires
clone_chunk-clone_items-requires t c =
    let same : term_weights c.items.result.now ≡ term_weights (items_of c.args.chunk.now) = ap term_weights c.items.ensures in
    (omega (arith, same, c.decreases), tt)

pub clone_items-copy-requires : goal.clone_items-copy-requires
clone_items-copy-requires t c =
    let below = item_fits c.args.items.now c.loop-item.item-index c.item-item.result c.loop-item-test.true c.item-item.is in
    (omega (arith, below, c.decreases), tt)

-- ---- a list

pub clone_list-returns-in_default-inner : goal.clone_list-returns-in_default-inner
clone_list-returns-in_default-inner t c =
    let l = c.args.items.now in
    let new = c.from_chunks.result in
    let bs = c.in_ok-copies.copies.items in
    let inner = c.chunk_clone_mode-inner.ensures in
    record {
      items = made_view l new bs c.from_chunks.ensures.chunks c.in_ok-copies.ensures.items;
      unique = by_mode c.chunk_clone_mode-inner.result c.args.mode (is_grouped l.repr) (list_unique l) (list_unique new) (is_shared_vec new) inner.copied (in_groups_unique is_unique l) (shared_list_unique is_unique new) (made_of_chunks is_unique c.chunk_clone_mode-inner.result l new bs c.in_default-inner.not-Frozen inner.in_blocks
          (λ same. not_found c.in_ok-list.field-0 c.in_default.not-Some c.in_ok-list.ensures.none (inner.equal same)) c.from_chunks.ensures.chunks
          c.from_chunks.ensures.unique c.in_ok-copies.ensures.unique);
    }

pub clone_chunks-loop-chunk-preserved : goal.clone_chunks-loop-chunk-preserved
clone_chunks-loop-chunk-preserved t c =
    let l = c.loop-chunk in
    let done = l.invariant.done in
    let cs = l.copies.items in
    let b = c.in-Some.chunk.now in
    let left = remaining_chunks c.next.new.self in
    let new = c.in_ok-clone_chunk.field-0 in
    let steps : remaining_chunks l.chunk-iterator ≡ b ∷ left = c.in-Some.ensures.steps in
    let pushed = c.in_ok-push.ensures.items in
    let Q : List (Chunk Json) → Type 0 = λ l. HasUniquenessOfMode c.args.mode (are_deep_unique_chunks (done ++ b ∷ [])) (are_deep_unique_chunks l) (all_shared l) in
    record {
      done = done ++ b ∷ [];
      split = l.invariant.split ∙ ap (λ bs. done ++ bs) steps ∙ sym (append_assoc done (b ∷ []) left);
      values = ap (λ l. items_value (flat_map items_of l)) pushed ∙ items_more done cs b new l.invariant.values c.in_ok-clone_chunk.ensures.items;
      own = subst Q {x = cs ++ new ∷ []} (sym pushed) (chunks_copied_more is_unique c.args.mode done cs b new l.invariant.own c.in_ok-clone_chunk.ensures.unique);
      below = chunks_below _ left b (term_weights (vec_items c.args.items.now)) steps l.invariant.below;
    }

pub clone_chunks-returns-clause-items : goal.clone_chunks-returns-clause-items
clone_chunks-returns-clause-items t c =
    let l = c.loop-chunk in
    let all : vec_chunks c.args.items.now ≡ l.invariant.done = l.invariant.split ∙ ap (λ bs. l.invariant.done ++ bs) c.in-None.ensures.steps.0 ∙ append-nil l.invariant.done in
    l.invariant.values ∙ ap (λ bs. items_value (flat_map items_of bs)) (sym all)

pub clone_chunks-returns-clause-unique : goal.clone_chunks-returns-clause-unique
clone_chunks-returns-clause-unique t c =
    let l = c.loop-chunk in
    let all : vec_chunks c.args.items.now ≡ l.invariant.done = l.invariant.split ∙ ap (λ bs. l.invariant.done ++ bs) c.in-None.ensures.steps.0 ∙ append-nil l.invariant.done in
    subst (λ bs. HasUniquenessOfMode c.args.mode (are_deep_unique_chunks bs) (are_deep_unique_chunks l.copies.items) (all_shared l.copies.items)) (sym all) l.invariant.own

pub clone_items-loop-item-preserved : goal.clone_items-loop-item-preserved
clone_items-loop-item-preserved t c =
    let vs = c.args.items.now in
    let k = c.loop-item.item-index in
    let cs = c.loop-item.copies.items in
    let v = c.item-item.result in
    let new = c.in_ok-copy.field-0 in
    let more : take (k + 1) vs ≡ take k vs ++ v ∷ [] = take_more vs k v c.loop-item-test.true ∙ ap (λ x. take k vs ++ x ∷ []) (sym c.item-item.is) in
    let pushed = c.in_ok-push.ensures.items in
    let P : List Json → Type 0 = λ l. HasUniquenessOfMode c.args.mode (items_unique (take (k + 1) vs)) (items_unique l) true in
    let Q : List Json → Type 0 = λ l. HasUniquenessOfMode c.args.mode (items_unique l) (items_unique (cs ++ new ∷ [])) true in
    record {
      values = ap (map value_of) pushed ∙ view_more cs (take k vs) new v c.loop-item.invariant.values c.in_ok-copy.ensures.value ∙ ap (map value_of) (sym more);
      own = subst P (sym pushed) (subst Q (sym more) (items_copied_more is_unique c.args.mode (take k vs) cs v new (is_frozen new) c.loop-item.invariant.own c.in_ok-copy.ensures.unique));
    }

pub clone_items-returns-clause-unique : goal.clone_items-returns-clause-unique
clone_items-returns-clause-unique t c =
    let P : List Json → Type 0 = λ l. HasUniquenessOfMode c.args.mode (items_unique l) (items_unique c.loop-item.copies.items) true in
    subst P (take_all c.loop-item.item-index c.args.items.now c.loop-item-test.false) c.loop-item.invariant.own

-- ---- an object

pub clone_members-from_entries-requires-in_default-inner : goal.clone_members-from_entries-requires-in_default-inner
clone_members-from_entries-requires-in_default-inner t c =
    let q = c.chunks-2.result.now in
    let new = c.from_chunks.result in
    let viewed : entries_value (vec_items new) ≡ entries_value (vec_items q) = ap (λ b. entries_value (flat_map items_of b)) c.from_chunks.ensures.chunks ∙ c.in_ok-copies.ensures.members in
    record { bound = small_viewed q new viewed c.chunks-2.ensures.bound; ascending = ascending_viewed q new viewed c.chunks-2.ensures.ascending }

pub clone_members-from_entries-requires-clause-bound : goal.clone_members-from_entries-requires-clause-bound
clone_members-from_entries-requires-clause-bound t c =
    let q = c.chunks-2.result.now in
    let new = c.in_ok-entries-in-Frozen.entries in
    small_viewed q new (ap (λ b. entries_value (flat_map items_of b)) c.in_ok-entries-in-Frozen.ensures.chunks ∙ c.in_ok-copies.ensures.members) c.chunks-2.ensures.bound

pub clone_members-from_entries-requires-clause-ascending : goal.clone_members-from_entries-requires-clause-ascending
clone_members-from_entries-requires-clause-ascending t c =
    let q = c.chunks-2.result.now in
    let new = c.in_ok-entries-in-Frozen.entries in
    ascending_viewed q new (ap (λ b. entries_value (flat_map items_of b)) c.in_ok-entries-in-Frozen.ensures.chunks ∙ c.in_ok-copies.ensures.members) c.chunks-2.ensures.ascending

pub clone_members-returns-in_default-inner : goal.clone_members-returns-in_default-inner
clone_members-returns-in_default-inner t c =
    let m = c.args.members.now in
    let l = map_chunks m in
    let new = c.from_chunks.result in
    let bs = c.in_ok-copies.copies.items in
    let inner = c.chunk_clone_mode-inner.ensures in
    let kind = c.chunk_clone_mode-inner.result in
    let same = c.chunks.ensures.equal in
    let P : ChunkedVec (MapEntry Json) → Type 0 = λ q. HasUniquenessOfMode kind (are_deep_unique_member_chunks (vec_chunks q)) (are_deep_unique_member_chunks bs) (all_shared bs) in
    let Q : ChunkedVec (MapEntry Json) → Type 0 = λ q. HasUniquenessOfMode c.args.mode (object_unique m) (entries_unique q) (is_shared_vec q) in
    let made = made_of_chunks value_own kind l new bs c.in_default-inner.not-Frozen (λ e. ap (λ (q : ChunkedVec (MapEntry Json)). is_grouped q.repr) (sym same) ∙ inner.in_blocks e)
    (λ e. not_found c.in_ok-copy.field-0 c.in_default.not-Some c.in_ok-copy.ensures.none (inner.equal e)) c.from_chunks.ensures.chunks
    c.from_chunks.ensures.unique (subst P c.chunks-2.ensures.equal c.in_ok-copies.ensures.unique) in
    record {
      members = ap (λ (q : ChunkedVec (MapEntry Json)). entries_value (vec_items q)) c.from_entries-in_default-inner.ensures
          ∙ ap (λ b. entries_value (flat_map items_of b)) c.from_chunks.ensures.chunks ∙ c.in_ok-copies.ensures.members
          ∙ ap (λ (q : ChunkedVec (MapEntry Json)). entries_value (vec_items q)) c.chunks-2.ensures.equal;
      unique = subst Q (sym c.from_entries-in_default-inner.ensures)
          (by_mode kind c.args.mode (is_grouped c.chunks.result.now.repr) (object_unique m) (entries_unique new) (is_shared_vec new) inner.copied
          (λ h. in_groups_unique value_own l (ap (λ (q : ChunkedVec (MapEntry Json)). is_grouped q.repr) (sym same) ∙ h)) (shared_list_unique value_own new) made);
    }

pub clone_member_chunks-clone_member_chunk-requires : goal.clone_member_chunks-clone_member_chunk-requires
clone_member_chunks-clone_member_chunk-requires t c =
    let here = first_part_fits _ (remaining_chunks c.next.new.self) c.in-Some.chunk.now c.in-Some.ensures.steps in
    (omega (arith, here, c.loop-chunk.invariant.below, c.decreases), tt)

pub clone_each_member-copy-requires : goal.clone_each_member-copy-requires
clone_each_member-copy-requires t c =
    let below = member_fits c.args.members.now c.loop-member.member-index c.member-item.result c.loop-member-test.true c.member-item.is in
    (omega (arith, below, c.decreases), tt)

pub clone_member_chunks-loop-chunk-preserved : goal.clone_member_chunks-loop-chunk-preserved
clone_member_chunks-loop-chunk-preserved t c =
    let l = c.loop-chunk in
    let done = l.invariant.done in
    let cs = l.copies.items in
    let b = c.in-Some.chunk.now in
    let left = remaining_chunks c.next.new.self in
    let new = c.in_ok-clone_member_chunk.field-0 in
    let steps : remaining_chunks l.chunk-iterator ≡ b ∷ left = c.in-Some.ensures.steps in
    let pushed = c.in_ok-push.ensures.items in
    let Q : List (Chunk (MapEntry Json)) → Type 0 = λ l. HasUniquenessOfMode c.args.mode (are_deep_unique_member_chunks (done ++ b ∷ [])) (are_deep_unique_member_chunks l) (all_shared l) in
    record {
      done = done ++ b ∷ [];
      split = l.invariant.split ∙ ap (λ bs. done ++ bs) steps ∙ sym (append_assoc done (b ∷ []) left);
      members = ap (λ l. entries_value (flat_map items_of l)) pushed ∙ entries_more done cs b new l.invariant.members c.in_ok-clone_member_chunk.ensures.members;
      own = subst Q {x = cs ++ new ∷ []} (sym pushed) (chunks_copied_more value_own c.args.mode done cs b new l.invariant.own c.in_ok-clone_member_chunk.ensures.unique);
      below = parts_below _ left b (entries_weight (vec_items c.args.entries.now)) steps l.invariant.below;
    }

pub clone_member_chunks-returns-clause-members : goal.clone_member_chunks-returns-clause-members
clone_member_chunks-returns-clause-members t c =
    let l = c.loop-chunk in
    let all : vec_chunks c.args.entries.now ≡ l.invariant.done = l.invariant.split ∙ ap (λ bs. l.invariant.done ++ bs) c.in-None.ensures.steps.0 ∙ append-nil l.invariant.done in
    l.invariant.members ∙ ap (λ bs. entries_value (flat_map items_of bs)) (sym all)

pub clone_member_chunks-returns-clause-unique : goal.clone_member_chunks-returns-clause-unique
clone_member_chunks-returns-clause-unique t c =
    let l = c.loop-chunk in
    let all : vec_chunks c.args.entries.now ≡ l.invariant.done = l.invariant.split ∙ ap (λ bs. l.invariant.done ++ bs) c.in-None.ensures.steps.0 ∙ append-nil l.invariant.done in
    subst (λ bs. HasUniquenessOfMode c.args.mode (are_deep_unique_member_chunks bs) (are_deep_unique_member_chunks l.copies.items) (all_shared l.copies.items)) (sym all) l.invariant.own

pub clone_each_member-loop-member-preserved : goal.clone_each_member-loop-member-preserved
clone_each_member-loop-member-preserved t c =
    let ms = c.args.members.now in
    let k = c.loop-member.member-index in
    let cs = c.loop-member.copies.items in
    let m = c.member-item.result in
    let new = c.in_ok-clone_entry.field-0 in
    let more : take (k + 1) ms ≡ take k ms ++ m ∷ [] = take_more ms k m c.loop-member-test.true ∙ ap (λ x. take k ms ++ x ∷ []) (sym c.member-item.is) in
    let pushed = c.in_ok-push.ensures.items in
    let made : new.value ≡ c.in_ok-value.value = ap (λ e. e.1) c.in_ok-clone_entry.ensures in
    let P : List (MapEntry Json) → Type 0 = λ l. HasUniquenessOfMode c.args.mode (members_unique (take (k + 1) ms)) (members_unique l) true in
    let Q : List (MapEntry Json) → Type 0 = λ l. HasUniquenessOfMode c.args.mode (members_unique l) (members_unique (cs ++ new ∷ [])) true in
    let R : Json → Type 0 = λ v. HasUniquenessOfMode c.args.mode (is_unique m.value) (is_unique v) (is_frozen v) in
    record {
      members = ap entries_value pushed
          ∙ entry_more (take k ms) cs m new c.loop-member.invariant.members (same_member m new (ap (λ e. e.0) c.in_ok-clone_entry.ensures) (ap value_of made ∙ c.in_ok-value.ensures.value))
          ∙ ap entries_value (sym more);
      own = subst P (sym pushed) (subst Q (sym more) (items_copied_more value_own c.args.mode (take k ms) cs m new (is_frozen new.value) c.loop-member.invariant.own
          (subst R (sym made) c.in_ok-value.ensures.unique)));
    }

pub clone_each_member-returns-clause-unique : goal.clone_each_member-returns-clause-unique
clone_each_member-returns-clause-unique t c =
    let P : List (MapEntry Json) → Type 0 = λ l. HasUniquenessOfMode c.args.mode (members_unique l) (members_unique c.loop-member.copies.items) true in
    subst P (take_all c.loop-member.member-index c.args.members.now c.loop-member-test.false) c.loop-member.invariant.own
