use Rattle.std.proofs.Common.{◌++◌, ◌∷◌, [], ap, ◌∙◌}
use Rattle.json.specs.Print.{print}
use Rattle.json.specs.Token.{key}
use Rattle.sdb_value_text.proofs.TextLemmas.{print_key}
use Rattle.sdb_value_text.proofs.append.text_of_key.Goals as goal

pub returns : goal.returns
returns c =
    let k = c.args.key.now in
    c.bytes_of.ensures ∙ ap print (c.in_ok-key.ensures.ok ∙ ap (λ ts. ts ++ key k ∷ []) c.in_ok-writer.ensures.tokens) ∙ print_key k
