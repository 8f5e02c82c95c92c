use Rattle.std.proofs.Common.{◌≡◌, ◌∷◌, [], ◌++◌, ap, ◌∙◌, rules, append_assoc}
use Rattle.json.specs.Print.{print}
use Rattle.json.specs.Token.{end_object}
use Rattle.sdb_wire.specs.DocumentParts.{version_suffix}
use Rattle.sdb_wire.proofs.parts.write_suffix_at.Goals as goal

pub returns : goal.returns
returns c =
    let last : c.end_object.new.self.tokens ≡ c.write_count-2.new.out.tokens ++ end_object ∷ [] = search rules in
    let tokens : c.end_object.new.self.tokens ≡ version_suffix c.args.id c.args.version =
    last ∙ rw (c.in_ok-write_count-2.ensures.tokens, c.in_ok-write_text.ensures.tokens, c.in_ok-write_count.ensures.tokens, c.in_ok-out.ensures.tokens) (simp append_assoc (search rules)) in
    let before : c.end_object.new.self.before ≡ 44 ∷ [] = search rules in
    c.into_inner.ensures.items ∙ ap (λ b. b ++ print c.end_object.new.self.tokens) before ∙ ap (λ ts. 44 ∷ print ts) tokens
