use Rattle.std.proofs.Common.{◌≡◌, ◌∷◌, [], ◌++◌, codes, refl, ◌∙◌, rules, append_assoc}
use Rattle.std.proofs.lemmas.Result.{on_ok_weaker}
use Rattle.json.specs.Token.{key}
use Rattle.sdb_wire.proofs.write.write_document.Goals as goal

pub returns-clause-tokens : goal.returns-clause-tokens
returns-clause-tokens c =
    let named : c.key.new.self.tokens ≡ c.write_head.new.out.tokens ++ key (codes "data") ∷ [] = search rules in
    on_ok_weaker c.end_object.result (λ e. e ∙ rw (c.in_ok-write_snapshot.ensures.tokens, named, c.in_ok-write_head.ensures.tokens) (simp append_assoc refl)) c.end_object.ensures.ok
