use Rattle.std.proofs.Common.{◌≡◌, ◌∷◌, [], map, Some, None, slice_get, nat_lt, sym, ap, ◌∙◌}
use Rattle.serde_json.specs.Written.{comma_if}
use Rattle.sdb_chunks.specs.ChunkedVec.{vec_items}
use Rattle.sdb_chunks.specs.laws.ChunkLaws.{vec_models_of_items}
use Rattle.sdb_value.specs.Uniqueness.{is_unique, value_model}
use Rattle.sdb_value.specs.View.{list_value, value_of}
use Rattle.sdb_value_text.specs.Level.{list_text, opened_text}
use Rattle.sdb_value_text.specs.ValueText.{value_text}
use Rattle.sdb_value_text.proofs.TextLemmas.{appended, item_appended, item_text, list_end_text}
use Rattle.sdb_value_text.proofs.level.write_item.Goals as goal

pub returns-in_default-clause-text : goal.returns-in_default-clause-text
returns-in_default-clause-text c =
    let l = c.args.items.now in
    let i = c.args.index in
    let none : slice_get (map value_model (vec_items l)) i ≡ None = ap (λ xs. slice_get xs i) (sym (vec_models_of_items value_model l)) ∙ sym c.in_default.ensures in
    appended c.push.new.self.items c.args.out.now.items (93 ∷ []) [] (list_text (list_value l) i) c.in_ok-push.ensures.items (list_end_text (vec_items l) i none)

pub returns-clause-text : goal.returns-clause-text
returns-clause-text c =
    let l = c.args.items.now in
    let i = c.args.index in
    let v = c.in-Some.item.now in
    let found : slice_get (map value_model (vec_items l)) i ≡ Some (value_of v, is_unique v) = ap (λ xs. slice_get xs i) (sym (vec_models_of_items value_model l)) ∙ sym c.in-Some.ensures in
    item_appended c.begin_value.new.out.items c.append_comma.new.out.items c.args.out.now.items (comma_if (nat_lt 0 i)) (value_text (value_of v)) (opened_text c.in_ok-inner.inner)
    _ _ c.in_ok-append_comma.ensures c.in_ok-inner.ensures.text (item_text (vec_items l) i (value_of v) (is_unique v) found)
