use Rattle.std.proofs.Common.{◌≡◌, ◌+◌, ◌∷◌, [], ◌++◌, drop, sym, ap, ◌∙◌, arith}
use Rattle.std.proofs.lemmas.List.{drop_all, drop_more}
use Rattle.std.proofs.lemmas.Result.{on_err_weaker}
use Rattle.json.specs.Token.{begin_array}
use Rattle.serde_json.specs.Data.{no_items}
use Rattle.sdb_value.specs.ToJson.{array_tail_tokens, data_tokens}
use Rattle.sdb_value.specs.View.{plain_path, plain_step}
use Rattle.sdb_value.specs.laws.PrefixLaws.{on_any_err, writes_prefix_refl, writes_prefix_after_append, writes_prefix_after, writes_prefix_of_rest}
use Rattle.sdb_component.specs.ToJson.{last_step, path_items, step_data}
use Rattle.sdb_component.proofs.WriteLemmas.{steps_add}
use Rattle.sdb_component.proofs.write.write_path.Goals as goal

pub returns-in_err-write_step-clause-err : goal.returns-in_err-write_step-clause-err
returns-in_err-write_step-clause-err c =
    let l = c.loop-step in
    let xs = c.path-step-items.result.now in
    let x = c.step-item.result in
    let later = drop (l.step-index + 1) xs in
    let last = last_step c.args.component.now.act in
    let here : drop l.step-index xs ≡ x ∷ later = drop_more xs l.step-index x (omega arith) ∙ ap (λ y. y ∷ later) (sym c.step-item.is) in
    let all = ap (λ p. begin_array ∷ array_tail_tokens (path_items (p ++ last))) (sym c.path-step-items.ensures) in
    let whole = all ∙ l.invariant.split ∙ ap (λ ys. l.invariant.done ++ array_tail_tokens (path_items (plain_path ys ++ last))) here in
    on_any_err _ (writes_prefix_after_append _ l.out.tokens _ l.invariant.done (data_tokens (step_data (plain_step x))) (array_tail_tokens (path_items (plain_path later ++ last))) _ l.invariant.written whole c.in_err-write_step.ensures.err)

pub returns-in_err-write_last-clause-err : goal.returns-in_err-write_last-clause-err
returns-in_err-write_last-clause-err c =
    let l = c.loop-step in
    let xs = c.path-step-items.result.now in
    let last = last_step c.args.component.now.act in
    let ended : drop l.step-index xs ≡ [] = drop_all l.step-index xs (omega arith) in
    let all = ap (λ p. begin_array ∷ array_tail_tokens (path_items (p ++ last))) (sym c.path-step-items.ensures) in
    let whole = all ∙ l.invariant.split ∙ ap (λ ys. l.invariant.done ++ array_tail_tokens (path_items (plain_path ys ++ last))) ended in
    on_any_err _ (writes_prefix_after _ l.out.tokens _ l.invariant.done (array_tail_tokens (path_items last)) _ l.invariant.written whole (rw c.act.ensures at c.in_err-write_last.ensures.err))

pub returns-clause-err : goal.returns-clause-err
returns-clause-err c =
    let l = c.loop-step in
    let xs = c.path-step-items.result.now in
    let last = last_step c.args.component.now.act in
    let ended : drop l.step-index xs ≡ [] = drop_all l.step-index xs (omega arith) in
    let all = ap (λ p. begin_array ∷ array_tail_tokens (path_items (p ++ last))) (sym c.path-step-items.ensures) in
    let whole = all ∙ l.invariant.split ∙ ap (λ ys. l.invariant.done ++ array_tail_tokens (path_items (plain_path ys ++ last))) ended in
    let put = c.in_ok-write_last.ensures.tokens ∙ ap (λ b. l.out.tokens ++ array_tail_tokens (path_items (last_step b))) c.act.ensures in
    on_err_weaker c.end_array.result (λ e. writes_prefix_after _ l.out.tokens _ l.invariant.done (array_tail_tokens (path_items last)) _ l.invariant.written whole
    (writes_prefix_of_rest l.out.tokens c.write_last.new.out.tokens c.end_array.new.self.tokens (array_tail_tokens no_items) _ put (steps_add last) (writes_prefix_refl _ _ _ e))) c.end_array.ensures.err
