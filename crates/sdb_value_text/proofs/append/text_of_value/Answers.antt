use Rattle.std.proofs.Common.{◌++◌, ap, ◌∙◌}
use Rattle.json.specs.Print.{print}
use Rattle.serde_json.proofs.Texts.{print-outline}
use Rattle.sdb_value.specs.FromJson.{data_of_value}
use Rattle.sdb_value.specs.ToJson.{data_tokens}
use Rattle.sdb_value.specs.View.{value_of}
use Rattle.sdb_value_text.proofs.append.text_of_value.Goals as goal

pub returns : goal.returns
returns c =
    let d = data_of_value (value_of c.args.value.now) in
    c.bytes_of.ensures ∙ ap print (c.in_ok-write_value.ensures.tokens ∙ ap (λ ts. ts ++ data_tokens d) c.in_ok-writer.ensures.tokens) ∙ print-outline d
