use Rattle.std.proofs.Common.{◌≡◌, map, string_bytes, ap}
use Rattle.sdb_session.specs.Output.{answer_texts}
use Rattle.sdb_session.specs.View.{plain_session, WroteAnswers}
use Rattle.sdb_session.proofs.ResponseLemmas.{answers_other, texts_are}
use Rattle.sdb_wire.specs.Answers.{answer_text}
use Rattle.sdb_session.proofs.session.Session.handle.Goals as goal

pub returns-in-Ok-clause-outcome : goal.returns-in-Ok-clause-outcome
returns-in-Ok-clause-outcome g c =
    let old = map string_bytes c.new-texts.result.items in
    let new = map string_bytes c.handle_to.new.out.items in
    answers_other (g.D.Desk.step c.args.desk.now) (g.P.Policy.plain_policy c.args.policy.now) (g.D.Desk.pass_number c.args.desk.now c.args.pass.now) c.args.now (plain_session c.args.self.now) c.args.pass.now (plain_session c.handle_to.new.self) c.handle_to.new.pass
    (WroteAnswers answer_texts old new) (λ answers. new ≡ map answer_text answers) (λ a. texts_are old new a (ap (map string_bytes) c.new-texts.ensures.items)) c.args.text.now c.in-Ok.ensures.outcome
