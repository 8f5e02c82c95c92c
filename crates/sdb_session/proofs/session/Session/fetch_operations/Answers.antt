use Rattle.std.proofs.Common.{◌≡◌, ◌∷◌, [], None, Some, refl, ap, ◌∙◌, subst}
use Rattle.sdb_oplog.specs.Keys.{PlainKey, plain_key}
use Rattle.sdb_oplog.specs.declared.codes.Code.TheVariants.{E4}
use Rattle.sdb_projection.specs.Table.{projection_of}
use Rattle.sdb_submit.specs.Calls.{current_version}
use Rattle.sdb_session.specs.Listing.{PlainListing}
use Rattle.sdb_session.specs.ProjectionModel.{base_key, base_of, projection_of_key}
use Rattle.sdb_session.specs.View.{plain_session, plain_projection_option, echo_of_message, WroteAnswers}
use Rattle.sdb_session.specs.Handlers.{policy_of_context}
use Rattle.sdb_session.proofs.ResponseLemmas.{answered, equal_part, newer_outcome, on_output}
use Rattle.sdb_wire.specs.Answers.{failed}
use Rattle.sdb_wire.specs.Wire.{fetch}
use Rattle.sdb_session.proofs.session.Session.fetch_operations.Goals as goal

pub returns-then-present-from-clause-outcome : goal.returns-then-present-from-clause-outcome
returns-then-present-from-clause-outcome g c =
    let k = plain_key c.args.key in
    let t = c.args.context.now.table.now in
    let e = echo_of_message c.args.context.now.message in
    let s = plain_session c.args.self.now in
    let w = c.write_refusal-refused.result in
    let says = WroteAnswers g.O.AnswerSink.items (g.O.AnswerSink.contents c.args.out.now) (g.O.AnswerSink.contents c.write_refusal-refused.new.out) in
    let seen : plain_projection_option c.find.result ≡ projection_of_key t k = c.find.ensures ∙ ap (λ n. projection_of n t) c.as_str.ensures.value in
    equal_part _ _ _ _ _ s _ says s _ _ _ _ _ refl c.without_listing.ensures
    (answered _ _ _ _ _ s _ says s _ _ w
    (newer_outcome (policy_of_context g.P.Policy.plain_policy c.args.context.now) k seen c.args.from c.version-present.result (plain_key c.in_ok-base.base) c.in_ok-base.ensures c.version-present.ensures.call.step c.if-present-from.true (on_output w says (failed e E4 ∷ []) c.write_refusal-refused.ensures)))

pub returns-clause-outcome : goal.returns-clause-outcome
returns-clause-outcome g c =
    let acts = g.D.Desk.step c.args.context.now.desk.now in
    let k = plain_key c.args.key in
    let t = c.args.context.now.table.now in
    let v = c.version-present.result in
    let seen : plain_projection_option c.find.result ≡ projection_of_key t k = c.find.ensures ∙ ap (λ n. projection_of n t) c.as_str.ensures.value in
    let b : plain_key c.in_ok-base.base ≡ base_key t k = c.in_ok-base.ensures ∙ ap (λ x. base_of x k) seen in
    let listing : PlainKey → PlainListing = λ x. record { key = k; base = x; next = c.args.from; end = v; queue = None } in
    c.begin_listing.ensures.outcome (fetch k (Some c.args.from)) c.args.pass.now (g.D.Desk.pass_number c.args.context.now.desk.now c.args.pass.now) (record {
      end = v;
      reads = subst (λ x. acts x current_version c.args.pass.now v c.version-present.new.pass) b c.version-present.ensures.call.step;
      within = c.if-present-from.false;
      listing_is = ap listing b;
    })
