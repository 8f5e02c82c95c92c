use Rattle.std.proofs.Common.{◌≡◌, ◌∷◌, [], option_map, string_bytes, ap, ◌∙◌, sym, refl, subst}
use Rattle.sdb_desk.specs.ReplyView.{plain_reply}
use Rattle.sdb_oplog.specs.Keys.{plain_key}
use Rattle.sdb_oplog.specs.declared.codes.Code.TheVariants.{E9}
use Rattle.sdb_projection.specs.Table.{projection_of}
use Rattle.sdb_oplog.specs.Plain.{PlainSubmission}
use Rattle.sdb_submit.specs.SubmitLoop.{SubmitRelation}
use Rattle.sdb_session.specs.Responses.{submission_of, submit_answers}
use Rattle.sdb_session.specs.ProjectionModel.{base_of, projection_of_key}
use Rattle.sdb_session.specs.View.{plain_session, plain_projection_option, echo_of_message, WroteAnswers}
use Rattle.sdb_session.specs.Handlers.{policy_of_context}
use Rattle.sdb_session.proofs.ResponseLemmas.{answered, on_output, refused_outcome, sent_outcome}
use Rattle.sdb_wire.specs.Answers.{failed}
use Rattle.sdb_session.proofs.session.Session.submit.Goals as goal

pub returns-then-not-may_submit-clause-outcome : goal.returns-then-not-may_submit-clause-outcome
returns-then-not-may_submit-clause-outcome g c =
    let k = plain_key c.args.key.now in
    let t = c.args.context.now.table.now in
    let e = echo_of_message c.args.context.now.message in
    let o = plain_projection_option c.find-projection.result in
    let s = plain_session c.args.self.now in
    let sent = c.args.sent in
    let says = WroteAnswers g.O.AnswerSink.items (g.O.AnswerSink.contents c.args.out.now) (g.O.AnswerSink.contents c.write_refusal.new.out) in
    let seen : o ≡ projection_of_key t k = c.find-projection.ensures ∙ ap (λ n. projection_of n t) c.as_str.ensures.value in
    answered _ _ _ _ _ s _ says s _ _ c.write_refusal.result
    (refused_outcome (policy_of_context g.P.Policy.plain_policy c.args.context.now) k seen sent.version sent.seq (option_map string_bytes sent.src) sent.content (sym c.may_submit.ensures ∙ c.if-not-may_submit.true) refl (on_output c.write_refusal.result says (failed e E9 ∷ []) c.write_refusal.ensures))

pub returns-clause-outcome : goal.returns-clause-outcome
returns-clause-outcome g c =
    let k = plain_key c.args.key.now in
    let t = c.args.context.now.table.now in
    let e = echo_of_message c.args.context.now.message in
    let o = plain_projection_option c.find-projection.result in
    let s = plain_session c.args.self.now in
    let new = plain_session c.submission.new.self in
    let sent = c.args.sent in
    let src = option_map string_bytes sent.src in
    let u : PlainSubmission = c.in_ok-submission.submission in
    let r = plain_reply c.submit-reply.result in
    let b = plain_key c.base_key_or-base.result.now in
    let acts = g.D.Desk.step c.args.context.now.desk.now in
    let by = g.D.Desk.pass_number c.args.context.now.desk.now c.args.pass.now in
    let base : b ≡ base_of o k = c.base_key_or-base.ensures ∙ c.in_ok-moved.ensures in
    let says = WroteAnswers g.O.AnswerSink.items (g.O.AnswerSink.contents c.args.out.now) (g.O.AnswerSink.contents c.write_reply.new.out) in
    let seen : o ≡ projection_of_key t k = c.find-projection.ensures ∙ ap (λ n. projection_of n t) c.as_str.ensures.value in
    let is : u ≡ submission_of s k sent.version sent.seq src sent.content by = c.in_ok-submission.ensures.submission ∙ ap (submission_of s k sent.version sent.seq src sent.content) c.by.ensures in
    answered _ _ _ _ _ s _ says new _ _ c.write_reply.result
    (sent_outcome (policy_of_context g.P.Policy.plain_policy c.args.context.now) k seen sent.version sent.seq src sent.content b u r (sym c.may_submit.ensures ∙ c.if-not-may_submit.false) base is
    (subst (λ (x : PlainSubmission). SubmitRelation (acts b) x c.args.context.now.moment c.args.pass.now r c.submit-reply.new.pass) c.in_ok-copy.ensures c.submit-reply.ensures.chain)
    c.submission.ensures.session (on_output c.write_reply.result says (submit_answers e o k u.src u.seq r) c.write_reply.ensures))
