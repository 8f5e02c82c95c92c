use Rattle.std.proofs.Common.{List, Ok, subst, rules}
use Rattle.std.specs.declared.alloc.AllocError.{AllocError}
use Rattle.sdb_projection.specs.Table.{PlainProjection}
use Rattle.sdb_session.specs.Listing.{TextPart}
use Rattle.sdb_session.specs.ProgressView.{progress_result}
use Rattle.sdb_session.specs.View.{WroteAnswers, plain_session}
use Rattle.sdb_session.proofs.session.Session.answer.Goals as goal

pub returns-in_err-listing-in-Ok-clause-outcome : goal.returns-in_err-listing-in-Ok-clause-outcome
returns-in_err-listing-in-Ok-clause-outcome g c =
    let pol = g.P.Policy.plain_policy c.args.policy.now in
    let says = WroteAnswers g.O.AnswerSink.items (g.O.AnswerSink.contents c.args.out.now) (g.O.AnswerSink.contents c.answer_request.new.out) in
    let Part : List PlainProjection → Type 0 = λ t.
    TextPart (g.D.Desk.step c.args.desk.now) c.args.text.now (record { projections = t; allows = pol.allows }) (g.D.Desk.pass_number c.args.desk.now c.args.pass.now) c.args.now (plain_session c.args.self.now) c.args.pass.now
    (progress_result c.from_residual-in_err-listing-in-Ok.result) says (plain_session c.answer_request.new.self) c.answer_request.new.pass in
    subst Part c.table.ensures (search rules)

pub returns-clause-outcome : goal.returns-clause-outcome
returns-clause-outcome g c =
    let pol = g.P.Policy.plain_policy c.args.policy.now in
    let says = WroteAnswers g.O.AnswerSink.items (g.O.AnswerSink.contents c.args.out.now) (g.O.AnswerSink.contents c.match-request.out) in
    let Part : List PlainProjection → Type 0 = λ t.
    TextPart (g.D.Desk.step c.args.desk.now) c.args.text.now (record { projections = t; allows = pol.allows }) (g.D.Desk.pass_number c.args.desk.now c.args.pass.now) c.args.now (plain_session c.args.self.now) c.args.pass.now
    (progress_result {E = AllocError} (Ok c.match-request.progress)) says (plain_session c.match-request.self) c.match-request.pass in
    subst Part c.table.ensures (search rules)
