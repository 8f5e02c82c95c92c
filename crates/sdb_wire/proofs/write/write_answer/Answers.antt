use Rattle.std.proofs.Common.{◌++◌, ap, sym, ◌∙◌}
use Rattle.std.proofs.lemmas.Result.{on_ok_weaker}
use Rattle.sdb_wire.specs.Answers.{answer_tokens}
use Rattle.sdb_wire.specs.View.{plain_answer}
use Rattle.sdb_wire.proofs.write.write_answer.Goals as goal

pub returns-in-Init-clause-tokens : goal.returns-in-Init-clause-tokens
returns-in-Init-clause-tokens c =
    on_ok_weaker c.write_hello_answer.result (λ h. h ∙ ap (λ a. c.args.out.now.tokens ++ answer_tokens (plain_answer a)) (sym c.in-Init.is)) c.write_hello_answer.ensures.tokens
