use Rattle.std.proofs.Common.{◌++◌, ap, ◌∙◌}
use Rattle.json.specs.Print.{print}
use Rattle.serde_json.proofs.Texts.{print-outline}
use Rattle.sdb_value.specs.ToJson.{data_tokens}
use Rattle.sdb_wire.specs.Answers.{answer_data}
use Rattle.sdb_wire.specs.View.{plain_answer}
use Rattle.sdb_wire.proofs.write.reply_text.Goals as goal

pub returns : goal.returns
returns c =
    let d = answer_data (plain_answer c.args.answer.now) in
    c.text_of.ensures ∙ ap print (c.in_ok-write_answer.ensures.tokens ∙ ap (λ ts. ts ++ data_tokens d) c.new-out.ensures.tokens) ∙ print-outline d
