use Rattle.std.specs.declared.alloc.AllocError.{AllocError}
use Rattle.std.proofs.Common.{List, Ok, option_map, subst}
use Rattle.sdb_projection.specs.Table.{PlainProjection}
use Rattle.sdb_session.specs.Listing.{ListingFinishes, ListingInterrupted, ListingPart, InterruptsOrDone}
use Rattle.sdb_session.specs.ListingView.{plain_listing}
use Rattle.sdb_session.specs.View.{WroteAnswers, plain_session}
use Rattle.sdb_session.proofs.PassLemmas.{next_pass_trans}
use Rattle.sdb_session.proofs.ListingPartLemmas.{stopped_outcome, text_continues, text_stops, wrote_join}
use Rattle.sdb_session.proofs.session.Session.handle_to.Goals as goal

pub returns-in_err-rest-clause-outcome : goal.returns-in_err-rest-clause-outcome
returns-in_err-rest-clause-outcome g c =
    let s = plain_session c.args.self.now in
    let new = plain_session c.continue_to.new.self in
    let before = WroteAnswers g.O.AnswerSink.items (g.O.AnswerSink.contents c.args.out.now) (g.O.AnswerSink.contents c.loop-rest.out) in
    let acts = g.D.Desk.step c.args.desk.now in
    let l = plain_listing c.in-Some.listing in
    let mid = plain_session c.loop-rest.self in
    let Stops : List PlainProjection → Type 0 = λ t.
    InterruptsOrDone (ListingFinishes acts t l mid c.loop-rest.pass) (ListingInterrupted acts l) mid c.loop-rest.pass new c.continue_to.new.pass in
    stopped_outcome c.from_residual-in_err-rest.result _ _ _ s c.args.pass.now new c.continue_to.new.pass c.from_residual-in_err-rest.ensures.0
    (text_stops (g.D.Desk.step c.args.desk.now) c.args.text.now (g.P.Policy.plain_policy c.args.policy.now) (g.D.Desk.pass_number c.args.desk.now c.args.pass.now) c.args.now s c.args.pass.now AllocError
    c.loop-rest.rest c.in-Some.listing c.in-Some.is (plain_session c.loop-rest.self) c.loop-rest.pass before c.loop-rest.invariant.outcome new c.continue_to.new.pass
    (subst Stops c.table.ensures c.in_err-rest.ensures.outcome))

pub loop-rest-preserved : goal.loop-rest-preserved
loop-rest-preserved g c =
    let f = g.O.AnswerSink.items in
    let old = g.O.AnswerSink.contents c.args.out.now in
    let mid = g.O.AnswerSink.contents c.loop-rest.out in
    let new = g.O.AnswerSink.contents c.continue_to.new.out in
    let Part : List PlainProjection → Type 0 = λ t.
    ListingPart (g.D.Desk.step c.args.desk.now) {E = AllocError} t (plain_listing c.in-Some.listing) (plain_session c.loop-rest.self) c.loop-rest.pass (Ok (option_map plain_listing c.in_ok-rest.rest))
    (WroteAnswers f mid new) (plain_session c.continue_to.new.self) c.continue_to.new.pass in
    record {
      pass = next_pass_trans c.loop-rest.invariant.pass c.in_ok-rest.ensures.pass;
      alive = c.in_ok-rest.ensures.ended;
      request = c.loop-rest.invariant.request;
      outcome =
          text_continues (g.D.Desk.step c.args.desk.now) c.args.text.now (g.P.Policy.plain_policy c.args.policy.now) (g.D.Desk.pass_number c.args.desk.now c.args.pass.now) c.args.now (plain_session c.args.self.now) c.args.pass.now AllocError
          c.loop-rest.rest c.in-Some.listing c.in-Some.is (plain_session c.loop-rest.self) c.loop-rest.pass (WroteAnswers f old mid) c.loop-rest.invariant.outcome AllocError
          (WroteAnswers f mid new) (WroteAnswers f old new) (wrote_join f old mid new) (option_map plain_listing c.in_ok-rest.rest) (plain_session c.continue_to.new.self) c.continue_to.new.pass (subst Part c.table.ensures c.in_ok-rest.ensures.outcome);
    }
