use Rattle.std.proofs.Common.{◌≡◌, ◌∷◌, [], ◌++◌, ◌∙◌, rules, append_assoc}
use Rattle.std.proofs.lemmas.Result.{on_ok_weaker}
use Rattle.json.specs.Token.{begin_object}
use Rattle.sdb_steps.proofs.write_answer.write_start.Goals as goal

pub returns-clause-tokens : goal.returns-clause-tokens
returns-clause-tokens c =
    let opened : c.begin_object.new.self.tokens ≡ c.args.out.now.tokens ++ begin_object ∷ [] = search rules in
    on_ok_weaker c.end_object.result (λ e. e ∙ rw (c.in_ok-write_count-2.ensures.tokens, c.in_ok-write_count.ensures.tokens, c.in_ok-write_text.ensures.tokens, opened) (simp append_assoc (search rules))) c.end_object.ensures.ok
