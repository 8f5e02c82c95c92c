use Rattle.std.proofs.Common.{◌≡◌, ◌∷◌, [], ◌++◌, map, Some, None, slice_get, nat_lt, suc, sym, ap, ◌∙◌, append_assoc}
use Rattle.serde_json.specs.Written.{comma_if}
use Rattle.sdb_chunks.specs.ChunkedVec.{vec_items, vec_models}
use Rattle.sdb_chunks.specs.laws.ChunkLaws.{vec_models_of_items}
use Rattle.sdb_sorted_map.specs.MapEntry.{entry_key}
use Rattle.sdb_sorted_map.specs.SortedMap.{map_chunks}
use Rattle.sdb_value.specs.Uniqueness.{is_unique}
use Rattle.sdb_value.specs.View.{object_value, value_of}
use Rattle.sdb_value_text.specs.Level.{object_text, opened_text}
use Rattle.sdb_value_text.specs.ValueText.{key_text, value_text}
use Rattle.sdb_value_text.proofs.TextLemmas.{appended, item_appended, member_text, object_end_text, model_of_entry}
use Rattle.sdb_value_text.proofs.level.write_member.Goals as goal

pub returns-in_default-clause-text : goal.returns-in_default-clause-text
returns-in_default-clause-text c =
    let l = map_chunks c.args.members.now in
    let i = c.args.index in
    let same = ap (λ m. slice_get (vec_models model_of_entry m) i) c.chunks.ensures.equal in
    let none : slice_get (map model_of_entry (vec_items l)) i ≡ None = ap (λ xs. slice_get xs i) (sym (vec_models_of_items model_of_entry l)) ∙ sym (c.in_default.ensures ∙ same) in
    appended c.push.new.self.items c.args.out.now.items (125 ∷ []) [] (object_text (object_value c.args.members.now) i) c.in_ok-push.ensures.items (object_end_text (vec_items l) i none)

pub returns-clause-text : goal.returns-clause-text
returns-clause-text c =
    let l = map_chunks c.args.members.now in
    let i = c.args.index in
    let m = c.in-Some.member.now in
    let v = m.value in
    let same = ap (λ m. slice_get (vec_models model_of_entry m) i) c.chunks.ensures.equal in
    let found : slice_get (map model_of_entry (vec_items l)) i ≡ Some (entry_key m, (value_of v, is_unique v)) =
    ap (λ xs. slice_get xs i) (sym (vec_models_of_items model_of_entry l)) ∙ sym (c.in-Some.ensures ∙ same) in
    let comma = comma_if (nat_lt 0 i) in
    let rest = object_text (object_value c.args.members.now) (suc i) in
    let named = c.in_ok-append_key.ensures ∙ ap (λ k. c.append_comma.new.out.items ++ key_text k) c.as_str.ensures in
    let head = named ∙ ap (λ xs. xs ++ key_text (entry_key m)) c.in_ok-append_comma.ensures ∙ append_assoc c.args.out.now.items comma (key_text (entry_key m)) in
    item_appended c.begin_value.new.out.items c.append_key.new.out.items c.args.out.now.items (comma ++ key_text (entry_key m)) (value_text (value_of v)) (opened_text c.in_ok-inner.inner)
    _ _ head c.in_ok-inner.ensures.text (member_text (vec_items l) i (entry_key m) (value_of v) (is_unique v) found ∙ sym (append_assoc comma (key_text (entry_key m)) (value_text (value_of v) ++ rest)))
