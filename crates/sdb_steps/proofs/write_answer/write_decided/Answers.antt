use Rattle.std.proofs.Common.{◌++◌, ap, sym, ◌∙◌}
use Rattle.std.proofs.lemmas.Result.{on_ok_weaker}
use Rattle.sdb_value.specs.ToJson.{data_tokens}
use Rattle.sdb_desk.specs.ReplyView.{plain_reply}
use Rattle.sdb_steps.specs.Lines.{decided_data}
use Rattle.sdb_steps.proofs.write_answer.write_decided.Goals as goal

pub returns-in-Repeat-clause-tokens : goal.returns-in-Repeat-clause-tokens
returns-in-Repeat-clause-tokens c =
    on_ok_weaker c.write_stored-in-Repeat.result (λ h. h ∙ ap (λ r. c.args.out.now.tokens ++ data_tokens (decided_data c.args.session (plain_reply r))) (sym c.in-Repeat.is)) c.write_stored-in-Repeat.ensures.tokens
