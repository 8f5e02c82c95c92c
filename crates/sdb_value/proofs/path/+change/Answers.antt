use Rattle.std.proofs.Common.{◌<◌, ◌^◌, ◌∷◌, [], length, option_map, slice_set, subst, ap, sym, ◌∙◌}
use Rattle.std.proofs.lemmas.Result.{on_err_weaker}
use Rattle.sdb_value.specs.laws.PrefixLaws.{on_any_err}
use Rattle.sdb_value.specs.laws.ValueLaws.{of_some, eq_list_of_as_list, eq_object_of_as_object}
use Rattle.sdb_sorted_map.specs.MapEntry.{entry_key}
use Rattle.sdb_sorted_map.specs.SortedMap.{map_chunks}
use Rattle.sdb_sorted_map.specs.KeyOrder.{IsAscending}
use Rattle.sdb_sorted_map.specs.SearchModel.{vec_keys}
use Rattle.sdb_value.specs.Uniqueness.{entries_unique}
use Rattle.sdb_value.specs.Value.{null, list, object, key, set_item}
use Rattle.sdb_value.specs.View.{value_of, plain_step, plain_path, object_value, list_value, values_of_entries}
use Rattle.sdb_value.proofs.ListLemmas.{shared_place}
use Rattle.sdb_value.proofs.ObjectLemmas.{named_again, shared_member}
use Rattle.sdb_value.proofs.EntryLemmas.{view_members, same_object, key_missing}
use Rattle.sdb_value.proofs.StepLemmas.{told_of, list_view, set_again, put_same}
use Rattle.sdb_value.proofs.path.+change.Goals as goal

-- ---- at an item

pub change_at-returns-in-Some-list_mut-clause-changed : goal.change_at-returns-in-Some-list_mut-clause-changed
change_at-returns-in-Some-list_mut-clause-changed g t c =
    told_of c.change_item.result (λ r u v. g.C.Change.relation c.args.change u v r) _ _ _ _ _ _
    (eq_list_of_as_list (value_of c.args.value.now) (list_value c.in-Some-list_mut.items.now) c.in-Some-list_mut.ensures.value)
    (ap plain_path c.in-Some.ensures.cases.0 ∙ ap (λ s. plain_step s ∷ plain_path c.in-Some.rest.now) c.in-Index.is)
    (of_some _ _ c.in-Some-list_mut.is (c.list_mut.follows.holds _)).0
    c.change_item.ensures.changed

pub change_at-returns-in-Some-list_mut-clause-err : goal.change_at-returns-in-Some-list_mut-clause-err
change_at-returns-in-Some-list_mut-clause-err g t c =
    on_err_weaker c.change_item.result
    (λ same. (of_some _ _ c.in-Some-list_mut.is (c.list_mut.follows.holds _)).0 ∙ ap list same
    ∙ sym (eq_list_of_as_list (value_of c.args.value.now) (list_value c.in-Some-list_mut.items.now) c.in-Some-list_mut.ensures.value))
    c.change_item.ensures.err

pub change_at-returns-in-Some-list_mut-clause-unique : goal.change_at-returns-in-Some-list_mut-clause-unique
change_at-returns-in-Some-list_mut-clause-unique g t c keeps own =
    (of_some _ _ c.in-Some-list_mut.is (c.list_mut.follows.holds _)).1 ∙ c.change_item.ensures.unique keeps (c.in-Some-list_mut.ensures.unique ∙ own)

-- ---- at a member

pub change_at-returns-in-Some-object_mut-clause-changed : goal.change_at-returns-in-Some-object_mut-clause-changed
change_at-returns-in-Some-object_mut-clause-changed g t c =
    told_of c.change_member.result (λ r u v. g.C.Change.relation c.args.change u v r) _ _ _ _ _ _
    (eq_object_of_as_object (value_of c.args.value.now) (object_value c.in-Some-object_mut.members.now) c.in-Some-object_mut.ensures.value)
    (ap plain_path c.in-Some.ensures.cases.0 ∙ ap (λ s. plain_step s ∷ plain_path c.in-Some.rest.now) c.in-Key.is
    ∙ ap (λ k. key k ∷ plain_path c.in-Some.rest.now) (sym c.as_str.ensures.value))
    (of_some _ _ c.in-Some-object_mut.is (c.object_mut.follows.holds _)).0
    c.change_member.ensures.changed

pub change_at-returns-in-Some-object_mut-clause-err : goal.change_at-returns-in-Some-object_mut-clause-err
change_at-returns-in-Some-object_mut-clause-err g t c =
    on_err_weaker c.change_member.result
    (λ same. (of_some _ _ c.in-Some-object_mut.is (c.object_mut.follows.holds _)).0 ∙ ap object same
    ∙ sym (eq_object_of_as_object (value_of c.args.value.now) (object_value c.in-Some-object_mut.members.now) c.in-Some-object_mut.ensures.value))
    c.change_member.ensures.err

pub change_at-returns-in-Some-object_mut-clause-unique : goal.change_at-returns-in-Some-object_mut-clause-unique
change_at-returns-in-Some-object_mut-clause-unique g t c keeps own =
    (of_some _ _ c.in-Some-object_mut.is (c.object_mut.follows.holds _)).1 ∙ c.change_member.ensures.unique keeps (c.in-Some-object_mut.ensures.unique ∙ own)

-- ---- an item, taken out and put back

pub change_item-returns-in_err-item-clause-shared_on_err : goal.change_item-returns-in_err-item-clause-shared_on_err
change_item-returns-in_err-item-clause-shared_on_err g t c =
    on_any_err c.from_residual.result (shared_place c.args.items.now c.args.number c.in_err-item.ensures.shared_on_err)

pub change_item-returns-clause-changed : goal.change_item-returns-clause-changed
change_item-returns-clause-changed g t c =
    let ds = list_value c.args.items.now in
    let new = value_of c.change_at-done.new.value in
    list_view c.change_at-done.result (λ r u v. g.C.Change.relation c.args.change u v r) ds _ c.args.number _ (value_of c.in-Some.item) new
    (ap (option_map value_of) (sym c.in-Some.is) ∙ c.in_ok-item.ensures.item)
    (c.put_item_back.ensures.items ∙ ap (λ l. set_item c.args.number l new) c.in_ok-item.ensures.left ∙ set_again c.args.number ds null new)
    c.change_at-done.ensures.changed

pub change_item-returns-clause-err : goal.change_item-returns-clause-err
change_item-returns-clause-err g t c =
    let ds = list_value c.args.items.now in
    on_err_weaker c.change_at-done.result
    (λ same. c.put_item_back.ensures.items ∙ ap (λ l. set_item c.args.number l (value_of c.change_at-done.new.value)) c.in_ok-item.ensures.left
    ∙ ap (set_item c.args.number (set_item c.args.number ds null)) same
    ∙ put_same c.args.number ds (value_of c.in-Some.item) (ap (option_map value_of) (sym c.in-Some.is) ∙ c.in_ok-item.ensures.item))
    c.change_at-done.ensures.err

-- ---- a member, taken out and put back

pub change_value-returns-in_err-member-clause-shared_on_err : goal.change_value-returns-in_err-member-clause-shared_on_err
change_value-returns-in_err-member-clause-shared_on_err g t c =
    on_any_err c.from_residual.result (shared_member c.args.entries.now c.args.number c.in_err-member.ensures.shared_on_err)

pub change_value-returns-clause-changed : goal.change_value-returns-clause-changed
change_value-returns-clause-changed g t c =
    let ds = values_of_entries c.args.entries.now in
    let new = value_of c.change_at-done.new.value in
    list_view c.change_at-done.result (λ r u v. g.C.Change.relation c.args.change u v r) ds _ c.args.number _ (value_of c.in-Some.member.value) new
    (ap (option_map (λ m. value_of m.value)) (sym c.in-Some.is) ∙ c.in_ok-member.ensures.value)
    (c.put_member_back.ensures.values ∙ ap (λ l. set_item c.args.number l new) c.in_ok-member.ensures.left ∙ set_again c.args.number ds null new)
    c.change_at-done.ensures.changed

pub change_value-returns-clause-names : goal.change_value-returns-clause-names
change_value-returns-clause-names g t c =
    let ts = vec_keys c.args.entries.now in
    c.put_member_back.ensures.names ∙ ap (λ l. slice_set l c.args.number (entry_key c.in-Some.member)) c.in_ok-member.ensures.names
    ∙ named_again ts c.args.number [] (entry_key c.in-Some.member) (sym c.in_ok-member.ensures.key ∙ ap (option_map entry_key) c.in-Some.is)

pub change_value-returns-clause-err : goal.change_value-returns-clause-err
change_value-returns-clause-err g t c =
    let ds = values_of_entries c.args.entries.now in
    on_err_weaker c.change_at-done.result
    (λ same. c.put_member_back.ensures.values ∙ ap (λ l. set_item c.args.number l (value_of c.change_at-done.new.value)) c.in_ok-member.ensures.left
    ∙ ap (set_item c.args.number (set_item c.args.number ds null)) same
    ∙ put_same c.args.number ds (value_of c.in-Some.member.value) (ap (option_map (λ m. value_of m.value)) (sym c.in-Some.is) ∙ c.in_ok-member.ensures.value))
    c.change_at-done.ensures.err

-- ---- a member of an object

pub change_member-from_entries-requires-clause-bound : goal.change_member-from_entries-requires-clause-bound
change_member-from_entries-requires-clause-bound g t c = subst (λ ts. length ts < 2 ^ 64) (sym c.change_value-done.ensures.names) c.into_chunks-entries.ensures.bound

pub change_member-from_entries-requires-clause-ascending : goal.change_member-from_entries-requires-clause-ascending
change_member-from_entries-requires-clause-ascending g t c = subst IsAscending (sym c.change_value-done.ensures.names) c.into_chunks-entries.ensures.ascending

pub change_member-returns-in-Ok-clause-changed : goal.change_member-returns-in-Ok-clause-changed
change_member-returns-in-Ok-clause-changed g t c =
    view_members c.change_value-done.result (λ r u v. g.C.Change.relation c.args.change u v r) c.args.name.now c.in-Ok.index (plain_path c.args.rest.now) c.args.members.now c.from_entries.result
    c.into_chunks-entries.result c.change_value-done.new.entries (c.into_chunks-entries.ensures.equal ∙ ap map_chunks c.replace.ensures.value) c.from_entries.ensures
    c.change_value-done.ensures.names c.in-Ok.ensures.key_index c.change_value-done.ensures.changed

pub change_member-returns-in-Ok-clause-err : goal.change_member-returns-in-Ok-clause-err
change_member-returns-in-Ok-clause-err g t c =
    let same = c.into_chunks-entries.ensures.equal ∙ ap map_chunks c.replace.ensures.value in
    on_err_weaker c.change_value-done.result
    (λ h. same_object c.args.members.now c.from_entries.result (ap vec_keys c.from_entries.ensures ∙ c.change_value-done.ensures.names ∙ ap vec_keys same)
    (ap values_of_entries c.from_entries.ensures ∙ h ∙ ap values_of_entries same)) c.change_value-done.ensures.err

pub change_member-returns-in-Ok-clause-unique : goal.change_member-returns-in-Ok-clause-unique
change_member-returns-in-Ok-clause-unique g t c keeps own =
    let same = c.into_chunks-entries.ensures.equal ∙ ap map_chunks c.replace.ensures.value in
    ap entries_unique c.from_entries.ensures ∙ c.change_value-done.ensures.unique keeps (ap entries_unique same ∙ own)

pub change_member-returns-in-Ok-clause-shared_on_err : goal.change_member-returns-in-Ok-clause-shared_on_err
change_member-returns-in-Ok-clause-shared_on_err g t c =
    let same = c.into_chunks-entries.ensures.equal ∙ ap map_chunks c.replace.ensures.value in
    on_err_weaker c.change_value-done.result (λ h. sym (ap entries_unique same) ∙ h) c.change_value-done.ensures.shared_on_err

pub change_member-returns-in-Ok-clause-result_unique : goal.change_member-returns-in-Ok-clause-result_unique
change_member-returns-in-Ok-clause-result_unique g t c own =
    let same = c.into_chunks-entries.ensures.equal ∙ ap map_chunks c.replace.ensures.value in
    c.change_value-done.ensures.result_unique (ap entries_unique same ∙ own)

pub change_member-returns-in-Err-clause-changed : goal.change_member-returns-in-Err-clause-changed
change_member-returns-in-Err-clause-changed g t c = key_missing c.args.members.now c.args.name.now c.in-Err.field-0 (plain_path c.args.rest.now) c.in-Err.ensures.insert_index
