use Rattle.std.proofs.Common.{◌≡◌, ◌∷◌, [], Ok, Err, OnOk, option_map, ap, ◌∙◌, subst}
use Rattle.sdb_desk.specs.View.{fetch_result_view}
use Rattle.sdb_oplog.specs.Keys.{plain_key}
use Rattle.sdb_projection.specs.Table.{projection_of}
use Rattle.sdb_value.specs.View.{value_of}
use Rattle.sdb_session.specs.ProjectionModel.{base_of, projected_value, projection_of_key}
use Rattle.sdb_session.specs.View.{plain_projection_option, echo_of_message, WroteAnswers}
use Rattle.sdb_session.specs.Handlers.{policy_of_context}
use Rattle.sdb_session.proofs.ResponseLemmas.{answered, document_answers, document_outcome, on_output}
use Rattle.sdb_session.proofs.documents.answer_document.Goals as goal

pub returns-in-Ok-clause-outcome : goal.returns-in-Ok-clause-outcome
returns-in-Ok-clause-outcome g c = λ s.
    let k = plain_key c.args.key.now in
    let t = c.args.context.now.table.now in
    let e = echo_of_message c.args.context.now.message in
    let o = plain_projection_option c.find-projection.result in
    let seen : o ≡ projection_of_key t k = c.find-projection.ensures ∙ ap (λ n. projection_of n t) c.as_str.ensures.value in
    let base : plain_key c.base_key_or-base.result.now ≡ base_of o k = c.base_key_or-base.ensures ∙ c.in_ok-moved.ensures in
    let says = WroteAnswers g.O.AnswerSink.items (g.O.AnswerSink.contents c.args.out.now) (g.O.AnswerSink.contents c.write_document.new.out) in
    let f = c.in-Ok.found in
    let r = fetch_result_view (Ok f) in
    let named = c.request_at-request.ensures f.version (option_map (projected_value o) (option_map value_of f.snapshot)) in
    let said = subst (λ a. OnOk c.write_document.result (says (a ∷ []))) named c.write_document.ensures in
    answered _ _ _ _ _ s _ says s _ _ c.write_document.result
    (document_outcome (policy_of_context g.P.Policy.plain_policy c.args.context.now) k seen c.args.point (plain_key c.base_key_or-base.result.now) r base c.in-Ok.ensures.reads (on_output c.write_document.result says (document_answers e o k c.args.point r) said))

pub returns-clause-outcome : goal.returns-clause-outcome
returns-clause-outcome g c = λ s.
    let k = plain_key c.args.key.now in
    let t = c.args.context.now.table.now in
    let e = echo_of_message c.args.context.now.message in
    let o = plain_projection_option c.find-projection.result in
    let seen : o ≡ projection_of_key t k = c.find-projection.ensures ∙ ap (λ n. projection_of n t) c.as_str.ensures.value in
    let base : plain_key c.base_key_or-base.result.now ≡ base_of o k = c.base_key_or-base.ensures ∙ c.in_ok-moved.ensures in
    let says = WroteAnswers g.O.AnswerSink.items (g.O.AnswerSink.contents c.args.out.now) (g.O.AnswerSink.contents c.write_refusal.new.out) in
    let r = fetch_result_view (Err c.in-Err.code) in
    answered _ _ _ _ _ s _ says s _ _ c.write_refusal.result
    (document_outcome (policy_of_context g.P.Policy.plain_policy c.args.context.now) k seen c.args.point (plain_key c.base_key_or-base.result.now) r base c.in-Err.ensures.reads (on_output c.write_refusal.result says (document_answers e o k c.args.point r) c.write_refusal.ensures))
