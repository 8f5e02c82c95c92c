use Rattle.std.proofs.Common.{◌++◌, ◌∷◌, [], ap, ◌∙◌}
use Rattle.json.specs.Print.{print}
use Rattle.json.specs.Token.{string}
use Rattle.sdb_value_text.proofs.TextLemmas.{print_string}
use Rattle.sdb_value_text.proofs.append.text_of_string.Goals as goal

pub returns : goal.returns
returns c =
    let s = c.args.text.now in
    c.bytes_of.ensures ∙ ap print (c.in_ok-string.ensures.ok ∙ ap (λ ts. ts ++ string s ∷ []) c.in_ok-writer.ensures.tokens) ∙ print_string s
