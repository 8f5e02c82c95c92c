use Rattle.std.proofs.Common.{◌++◌, ap, sym, ◌∙◌}
use Rattle.std.proofs.lemmas.Result.{on_ok_weaker}
use Rattle.sdb_value.specs.ToJson.{data_tokens}
use Rattle.sdb_desk.specs.View.{fetch_result_view}
use Rattle.sdb_steps.specs.Lines.{reply_data}
use Rattle.sdb_steps.specs.OneStep.{snapshot_fetched}
use Rattle.sdb_steps.proofs.write_answer.write_snapshot_answer.Goals as goal

pub returns-in-Err-clause-tokens : goal.returns-in-Err-clause-tokens
returns-in-Err-clause-tokens c =
    on_ok_weaker c.write_refused.result (λ h. h ∙ ap (λ r. c.args.out.now.tokens ++ data_tokens (reply_data c.args.session (snapshot_fetched (fetch_result_view r)))) (sym c.in-Err.is)) c.write_refused.ensures.tokens
