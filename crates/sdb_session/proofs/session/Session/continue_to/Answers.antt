use Rattle.std.proofs.Common.{sym, subst}
use Rattle.sdb_session.specs.Listing.{InterruptsOrDone, ListingFinishes, ListingInterrupted}
use Rattle.sdb_session.specs.ListingView.{plain_listing, PartOrFault}
use Rattle.sdb_session.specs.Sessions.{PlainSession}
use Rattle.sdb_session.specs.View.{plain_session, WroteAnswers}
use Rattle.sdb_session.proofs.ListingPartLemmas.{abandoned_part, part_stops}
use Rattle.sdb_session.proofs.session.Session.continue_to.Goals as goal

pub returns-in-Some-clause-outcome : goal.returns-in-Some-clause-outcome
returns-in-Some-clause-outcome g c =
    abandoned_part (g.D.Desk.step c.args.desk.now) c.args.table.now (plain_listing c.args.listing) (plain_session c.args.self.now) c.args.pass.now c.abandon.new.pass c.abandon.ensures.closed

pub returns-in-Err-NotRead-clause-outcome : goal.returns-in-Err-NotRead-clause-outcome
returns-in-Err-NotRead-clause-outcome g c =
    let acts = g.D.Desk.step c.args.desk.now in
    let t = c.args.table.now in
    let l = plain_listing c.args.listing in
    let s = plain_session c.args.self.now in
    let says = WroteAnswers g.O.AnswerSink.items (g.O.AnswerSink.contents c.args.out.now) (g.O.AnswerSink.contents c.continue_listing.new.out) in
    let q = c.continue_listing.new.pass in
    let stop = part_stops acts t l s (plain_session c.continue_listing.new.self) c.args.pass.now q c.in-Err-NotRead.field-0 says
    (subst (λ r. PartOrFault acts t l s c.args.pass.now r says (plain_session c.continue_listing.new.self) q) c.in-Err-NotRead.is c.continue_listing.ensures.outcome) in
    subst (λ (x : PlainSession). InterruptsOrDone (ListingFinishes acts t l s c.args.pass.now) (ListingInterrupted acts l) s c.args.pass.now x q) (sym c.end_with_error.ensures.session) stop
