use Rattle.std.proofs.Common.{◌≡◌, ◌+◌, ◌∷◌, ◌++◌, drop, sym, ap, ◌∙◌, arith}
use Rattle.std.proofs.lemmas.List.{drop_more}
use Rattle.json.specs.Token.{begin_array}
use Rattle.sdb_value.specs.ToJson.{array_tail_tokens, data_tokens}
use Rattle.sdb_value.specs.laws.PrefixLaws.{on_any_err, writes_prefix_after_append}
use Rattle.sdb_component.specs.ToJson.{component_data, component_items}
use Rattle.sdb_component.proofs.write.write_op.Goals as goal

pub returns-in_err-write_component-clause-err : goal.returns-in_err-write_component-clause-err
returns-in_err-write_component-clause-err c =
    let l = c.loop-component in
    let xs = c.components-component-items.result.now in
    let x = c.component-item.result in
    let later = drop (l.component-index + 1) xs in
    let here : drop l.component-index xs ≡ x ∷ later = drop_more xs l.component-index x (omega arith) ∙ ap (λ y. y ∷ later) (sym c.component-item.is) in
    let all = ap (λ cs. begin_array ∷ array_tail_tokens (component_items cs)) (sym c.components-component-items.ensures) in
    let whole = all ∙ l.invariant.split ∙ ap (λ cs. l.invariant.done ++ array_tail_tokens (component_items cs)) here in
    on_any_err _ (writes_prefix_after_append _ l.out.tokens _ l.invariant.done (data_tokens (component_data x)) (array_tail_tokens (component_items later)) _ l.invariant.written whole c.in_err-write_component.ensures.err)
