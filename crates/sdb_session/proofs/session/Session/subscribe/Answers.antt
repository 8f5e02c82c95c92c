use Rattle.std.proofs.Common.{◌≡◌, ◌∷◌, [], None, refl, ap, ◌∙◌, sym}
use Rattle.sdb_oplog.specs.Keys.{plain_key}
use Rattle.sdb_projection.specs.Table.{projection_of}
use Rattle.sdb_session.specs.ProjectionModel.{projection_of_key}
use Rattle.sdb_session.specs.Responses.{subscribe_answers}
use Rattle.sdb_session.specs.View.{plain_opened, plain_session, plain_projection_option, echo_of_message, WroteAnswers}
use Rattle.sdb_session.specs.Handlers.{policy_of_context}
use Rattle.sdb_session.proofs.ResponseLemmas.{answered, equal_part, on_output, full_outcome, opened_outcome, not_opened_outcome}
use Rattle.sdb_wire.specs.Answers.{failed}
use Rattle.sdb_session.proofs.session.Session.subscribe.Goals as goal

pub returns-then-is_subscription_full-clause-outcome : goal.returns-then-is_subscription_full-clause-outcome
returns-then-is_subscription_full-clause-outcome g c =
    let k = plain_key c.args.key in
    let t = c.args.context.now.table.now in
    let e = echo_of_message c.args.context.now.message in
    let o = plain_projection_option c.find-projection.result in
    let s = plain_session c.args.self.now in
    let code = c.limit_code-code.result in
    let w = c.write_refusal-refused.result in
    let says = WroteAnswers g.O.AnswerSink.items (g.O.AnswerSink.contents c.args.out.now) (g.O.AnswerSink.contents c.write_refusal-refused.new.out) in
    let seen : o ≡ projection_of_key t k = c.find-projection.ensures ∙ ap (λ n. projection_of n t) c.as_str.ensures.value in
    equal_part _ _ _ _ _ s _ says s _ _ _ _ _ refl c.without_listing.ensures
    (answered _ _ _ _ _ s _ says s _ _ w
    (full_outcome (policy_of_context g.P.Policy.plain_policy c.args.context.now) k seen c.args.version (plain_key c.in_ok-base.base) code (sym c.is_subscription_full.ensures ∙ c.if-is_subscription_full.true) c.in_ok-base.ensures c.limit_code-code.ensures.refuse_calls (on_output w says (failed e code ∷ []) c.write_refusal-refused.ensures)))

pub returns-in-Err-clause-outcome : goal.returns-in-Err-clause-outcome
returns-in-Err-clause-outcome g c =
    let k = plain_key c.args.key in
    let t = c.args.context.now.table.now in
    let e = echo_of_message c.args.context.now.message in
    let o = plain_projection_option c.find-projection.result in
    let s = plain_session c.args.self.now in
    let new = plain_session c.reserve_subscription.new.self in
    let code = c.in-Err.code in
    let w = c.write_refusal-refused-in-Err.result in
    let says = WroteAnswers g.O.AnswerSink.items (g.O.AnswerSink.contents c.args.out.now) (g.O.AnswerSink.contents c.write_refusal-refused-in-Err.new.out) in
    let seen : o ≡ projection_of_key t k = c.find-projection.ensures ∙ ap (λ n. projection_of n t) c.as_str.ensures.value in
    let full = sym c.is_subscription_full.ensures ∙ c.if-is_subscription_full.false in
    equal_part _ _ _ _ _ s _ says new _ _ _ _ _ refl c.without_listing-in-Err.ensures
    (answered _ _ _ _ _ s _ says new _ _ w
    (not_opened_outcome (policy_of_context g.P.Policy.plain_policy c.args.context.now) k seen c.args.version (plain_key c.in_ok-base.base) full c.in_ok-base.ensures code c.reserve_subscription.ensures.session c.in-Err.ensures.call.step (on_output w says (failed e code ∷ []) c.write_refusal-refused-in-Err.ensures)))

pub returns-in-None-clause-outcome : goal.returns-in-None-clause-outcome
returns-in-None-clause-outcome g c =
    let k = plain_key c.args.key in
    let t = c.args.context.now.table.now in
    let o = plain_projection_option c.find-projection.result in
    let s = plain_session c.args.self.now in
    let mid = plain_session c.reserve_subscription.new.self in
    let new = plain_session c.subscribe_document.new.self in
    let opened = plain_opened c.in-Ok.opened in
    let w = c.subscribe_document.result in
    let says = WroteAnswers g.O.AnswerSink.items (g.O.AnswerSink.contents c.args.out.now) (g.O.AnswerSink.contents c.subscribe_document.new.out) in
    let seen : o ≡ projection_of_key t k = c.find-projection.ensures ∙ ap (λ n. projection_of n t) c.as_str.ensures.value in
    let full = sym c.is_subscription_full.ensures ∙ c.if-is_subscription_full.false in
    equal_part _ _ _ _ _ s _ says new _ _ _ _ _ refl c.without_listing-in-None.ensures
    (answered _ _ _ _ _ s _ says new _ _ w
    (opened_outcome (policy_of_context g.P.Policy.plain_policy c.args.context.now) k seen c.args.version (plain_key c.in_ok-base.base) full c.in_ok-base.ensures opened mid c.subscribe.new.pass c.in-None.is c.in-Ok.ensures.call.step c.reserve_subscription.ensures.session
    c.subscribe_document.ensures.close_calls c.subscribe_document.ensures.session (on_output w says (subscribe_answers o k None (record { opened = opened; first = [] })) c.subscribe_document.ensures.output)))
