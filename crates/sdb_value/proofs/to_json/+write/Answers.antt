use Rattle.std.proofs.lemmas.List.{append-nil}
use Rattle.sdb_value.specs.FromJson.{data_of_value, data_of_items, data_of_members}
use Rattle.sdb_value.specs.View.{items_value, members_value, object_value}
use Rattle.serde_json.specs.Data as raw-data
use Rattle.serde_json.proofs.Views as data-views
use Rattle.std.proofs.Common.{map, ◌≡◌, [], ◌∷◌, ◌++◌, string_bytes, sym, ap, ◌∙◌, subst, append_assoc}
use Rattle.sdb_sorted_map.specs.Iter.{remaining_entries as members_left}
use Rattle.sdb_sorted_map.specs.SortedMap.{map_entries, entry_keys}
use Rattle.sdb_sorted_map.specs.KeyOrder.{IsAscending}
use Rattle.serde_json.specs.View as data-view
use Rattle.serde_json.proofs.Views.{members_view-insert_entry}
use Rattle.sdb_value.proofs.KeyOrderLemmas.{NamedEntry}
use Rattle.sdb_value.proofs.WriteLemmas.{put_last_data, to_items-map, made_more}
use Rattle.sdb_chunks.specs.Iter.{remaining_items}
use Rattle.sdb_chunks.specs.ChunkedVec.{vec_items}
use Rattle.sdb_value.proofs.ViewLemmas.{is_list, is_object}
use Rattle.sdb_value.proofs.WeightLemmas.{members_rest_below, rest_below, term_weights}
use Rattle.sdb_value.proofs.to_json.+write.Goals as goal

pub write_members-loop-key-preserved : goal.write_members-loop-key-preserved
write_members-loop-key-preserved t c =
    let l = c.loop-key in
    let done = l.invariant.done in
    let e : NamedEntry = (c.in-Some.key.now, c.in-Some.member.now) in
    let left = members_left c.next.new.self in
    let all : map_entries c.args.members.now ≡ done ++ e ∷ left = l.invariant.split ∙ ap (λ es. done ++ es) c.in-Some.ensures.steps in
    let last = put_last_data done e left (subst (λ es. IsAscending (entry_keys es)) all c.iter-key-items.ensures.ordered) in
    let named : string_bytes c.in_ok-name.name ≡ e.0 = c.in_ok-name.ensures.ok in
    record {
      done = done ++ e ∷ [];
      split = all ∙ sym (append_assoc done (e ∷ []) left);
      made = ap data-view.members_view c.in_ok-insert.ensures.entries ∙ members_view-insert_entry l.made.entries c.in_ok-name.name c.in_ok-write.field-0 ∙ rw (named, c.in_ok-write.ensures, l.invariant.made) last;
      below = members_rest_below _ left e _ c.in-Some.ensures.steps l.invariant.below;
    }

pub write_items-loop-item-preserved : goal.write_items-loop-item-preserved
write_items-loop-item-preserved t c =
    let l = c.loop-item in
    let done = l.invariant.done in
    let v = c.in-Some.item.now in
    let left = remaining_items c.next.new.self in
    let steps : remaining_items l.item-iterator ≡ v ∷ left = c.in-Some.ensures.steps in
    record {
      done = done ++ v ∷ [];
      split = l.invariant.split ∙ ap (λ vs. done ++ vs) steps ∙ sym (append_assoc done (v ∷ []) left);
      made = ap (map data-view.view) c.in_ok-push.ensures.items ∙ made_more l.made.items done c.in_ok-write.field-0 v l.invariant.made c.in_ok-write.ensures;
      below = rest_below (remaining_items l.item-iterator) left v (term_weights (vec_items c.args.items.now)) steps l.invariant.below;
    }

pub write_items-returns : goal.write_items-returns
write_items-returns t c =
    let l = c.loop-item in
    let all : vec_items c.args.items.now ≡ l.invariant.done = l.invariant.split ∙ ap (λ vs. l.invariant.done ++ vs) c.in-None.ensures.steps.0 ∙ append-nil l.invariant.done in
    ap data-view.items_of l.invariant.made ∙ to_items-map l.invariant.done ∙ ap (λ vs. data_of_items (items_value vs)) (sym all)

pub write-returns-in_ok-write_items-in-List : goal.write-returns-in_ok-write_items-in-List
write-returns-in_ok-write_items-in-List t c =
    data-views.view-Array c.in_ok-write_items-in-List.field-0 ∙ ap raw-data.array c.in_ok-write_items-in-List.ensures
    ∙ ap data_of_value (sym (is_list c.args.json.now c.in-List.items c.in-List.is))

pub write_members-returns : goal.write_members-returns
write_members-returns t c =
    let l = c.loop-key in
    let all : map_entries c.args.members.now ≡ l.invariant.done = l.invariant.split ∙ ap (λ es. l.invariant.done ++ es) c.in-None.ensures.steps.0 ∙ append-nil l.invariant.done in
    l.invariant.made ∙ ap (λ es. data_of_members (members_value es)) (sym all)

pub write-returns-in_ok-write_members-in-Object : goal.write-returns-in_ok-write_members-in-Object
write-returns-in_ok-write_members-in-Object t c =
    data-views.view-Object c.in_ok-write_members-in-Object.field-0 ∙ ap raw-data.object c.in_ok-write_members-in-Object.ensures
    ∙ ap data_of_value (sym (is_object c.args.json.now c.in-Object.members c.in-Object.is))
