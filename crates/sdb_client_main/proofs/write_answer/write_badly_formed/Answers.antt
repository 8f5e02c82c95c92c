use Rattle.std.proofs.Common.{◌≡◌, ◌∷◌, [], ◌++◌, ap, ◌∙◌, append_assoc}
use Rattle.std.proofs.lemmas.Result.{on_ok_weaker}
use Rattle.json.specs.Print.{print}
use Rattle.serde_json.proofs.Texts.{print-outline}
use Rattle.serde_json.specs.Written.{compact_text}
use Rattle.sdb_value.specs.ToJson.{data_tokens}
use Rattle.sdb_client_main.specs.Answers.{badly_formed_data}
use Rattle.sdb_client_main.proofs.write_answer.write_badly_formed.Goals as goal

pub returns : goal.returns
returns c =
    let d = badly_formed_data in
    let text : print c.write_error.new.out.tokens ≡ compact_text d = ap print (c.in_ok-write_error.ensures.tokens ∙ ap (λ ts. ts ++ data_tokens d) c.new-writer.ensures.tokens) ∙ print-outline d in
    on_ok_weaker c.append_line.result (λ h. h ∙ ap (λ t. c.args.out.now.items ++ t ++ 10 ∷ []) text ∙ append_assoc c.args.out.now.items (compact_text d) (10 ∷ [])) c.append_line.ensures
