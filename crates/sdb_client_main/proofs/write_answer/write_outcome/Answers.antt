use Rattle.std.proofs.Common.{◌≡◌, ◌∷◌, [], ◌++◌, ap, ◌∙◌, append_assoc, option_map}
use Rattle.std.proofs.lemmas.Result.{on_ok_weaker}
use Rattle.json.specs.Print.{print}
use Rattle.serde_json.proofs.Texts.{print-outline}
use Rattle.serde_json.specs.Written.{compact_text}
use Rattle.sdb_value.specs.ToJson.{data_tokens}
use Rattle.sdb_client.specs.View.{client_of}
use Rattle.sdb_client_main.specs.Answers.{outcome_data}
use Rattle.sdb_client_main.proofs.write_answer.write_outcome.Goals as goal

pub returns : goal.returns
returns c =
    let d = outcome_data c.args.fault (option_map (λ x. client_of x.now) c.args.client) in
    let text : print c.write_outcome_data.new.out.tokens ≡ compact_text d = ap print (c.in_ok-write_outcome_data.ensures.tokens ∙ ap (λ ts. ts ++ data_tokens d) c.new-writer.ensures.tokens) ∙ print-outline d in
    on_ok_weaker c.append_line.result (λ h. h ∙ ap (λ t. c.args.out.now.items ++ t ++ 10 ∷ []) text ∙ append_assoc c.args.out.now.items (compact_text d) (10 ∷ [])) c.append_line.ensures
