use Rattle.std.proofs.Common.{◌≡◌, ◌∷◌, [], ◌++◌, codes, ◌∙◌, rules, append_assoc}
use Rattle.std.proofs.lemmas.Result.{on_ok_weaker}
use Rattle.json.specs.Token.{begin_object, key}
use Rattle.sdb_dump.specs.DumpLine.{line_tail}
use Rattle.sdb_dump.proofs.dump_line.write_line.Goals as goal

pub returns-clause-tokens : goal.returns-clause-tokens
returns-clause-tokens c =
    let opened : c.begin_object.new.self.tokens ≡ c.args.out.now.tokens ++ begin_object ∷ [] = search rules in
    let named : c.key.new.self.tokens ≡ c.begin_object.new.self.tokens ++ key (codes "arrived") ∷ [] = search rules in
    on_ok_weaker c.write_tail.result (λ e. e ∙ c.in_ok-write_content.ensures.tokens (line_tail c.args.entry.now)
    ∙ rw (c.in_ok-write_count.ensures.tokens, c.in_ok-write_arrived.ensures.tokens, named, opened, c.moment.ensures, c.content.ensures, c.by.ensures, c.arrived-2.ensures, c.arrived.ensures) (simp append_assoc (search rules))) c.write_tail.ensures.tokens
