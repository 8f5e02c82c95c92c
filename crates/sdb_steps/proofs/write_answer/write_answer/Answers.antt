use Rattle.std.proofs.Common.{◌++◌, ap, sym, ◌∙◌}
use Rattle.std.proofs.lemmas.Result.{on_ok_weaker}
use Rattle.sdb_value.specs.ToJson.{data_tokens}
use Rattle.sdb_steps.specs.Lines.{step_answer_data}
use Rattle.sdb_steps.specs.View.{plain_step_answer}
use Rattle.sdb_steps.proofs.write_answer.write_answer.Goals as goal

pub returns-in-Unsubscribed-clause-tokens : goal.returns-in-Unsubscribed-clause-tokens
returns-in-Unsubscribed-clause-tokens c =
    on_ok_weaker c.write_notice-in-Unsubscribed.result (λ h. h ∙ ap (λ a. c.args.out.now.tokens ++ data_tokens (step_answer_data c.args.session (plain_step_answer a))) (sym c.in-Unsubscribed.is)) c.write_notice-in-Unsubscribed.ensures.tokens
