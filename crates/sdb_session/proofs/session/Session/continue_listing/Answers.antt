use Rattle.std.proofs.Common.{sym, subst}
use Rattle.sdb_session.specs.Listing.{InterruptsOrDone, ListingFinishes, ListingInterrupted}
use Rattle.sdb_session.specs.ListingView.{plain_listing}
use Rattle.sdb_session.specs.Sessions.{PlainSession}
use Rattle.sdb_session.specs.View.{plain_session}
use Rattle.sdb_session.proofs.ListingPartLemmas.{abandoned_part}
use Rattle.sdb_session.proofs.session.Session.continue_listing.Goals as goal

pub returns-in-Err-clause-outcome : goal.returns-in-Err-clause-outcome
returns-in-Err-clause-outcome g c =
    let acts = g.D.Desk.step c.args.desk.now in
    let t = c.args.table.now in
    let l = plain_listing c.args.listing in
    let s = plain_session c.args.self.now in
    let p = c.args.pass.now in
    let q = c.abandon.new.pass in
    subst (λ (x : PlainSession). InterruptsOrDone (ListingFinishes acts t l s p) (ListingInterrupted acts l) s p x q)
    (sym c.reserve_for.ensures.session)
    (abandoned_part acts t l s p q c.abandon.ensures.closed)
