use Rattle.std.proofs.Common.{◌≡◌, ◌++◌, ap, ◌∙◌}
use Rattle.std.proofs.lemmas.Result.{on_ok_weaker}
use Rattle.json.specs.Print.{print}
use Rattle.serde_json.proofs.Texts.{print-outline}
use Rattle.sdb_value.specs.ToJson.{data_tokens}
use Rattle.sdb_steps.specs.Lines.{step_answer_data}
use Rattle.sdb_steps.specs.View.{plain_step_answer}
use Rattle.sdb_steps.proofs.write_answer.write_step_answer.Goals as goal

pub returns-else-is_err-clause-ok : goal.returns-else-is_err-clause-ok
returns-else-is_err-clause-ok c =
    let d = step_answer_data c.args.session.number (plain_step_answer c.args.answer.now) in
    let before : c.write_answer-written.new.out.before ≡ c.args.out.now.items = c.write_answer-written.ensures.before_unchanged ∙ c.new-writer.ensures.before ∙ ap (λ v. v.items) c.replace.ensures.value in
    on_ok_weaker c.write_answer-written.result (λ h. c.into_inner.ensures.items ∙ ap (λ b. b ++ print c.write_answer-written.new.out.tokens) before
    ∙ ap (λ text. c.args.out.now.items ++ text) (ap print (h ∙ ap (λ ts. ts ++ data_tokens d) c.new-writer.ensures.tokens) ∙ print-outline d)) c.write_answer-written.ensures.tokens
