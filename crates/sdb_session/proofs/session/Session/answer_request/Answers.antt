use Rattle.std.proofs.Common.{refl, ap, ◌∙◌}
use Rattle.sdb_oplog.specs.Keys.{plain_key}
use Rattle.sdb_session.specs.View.{plain_session}
use Rattle.sdb_session.proofs.ResponseLemmas.{equal_part}
use Rattle.sdb_wire.specs.View.{plain_request}
use Rattle.sdb_wire.specs.Wire.{fetch}
use Rattle.sdb_session.proofs.session.Session.answer_request.Goals as goal

pub returns-in-None-clause-outcome : goal.returns-in-None-clause-outcome
returns-in-None-clause-outcome g c =
    equal_part _ _ _ _ _ _ _ _ _ _ _ _ _ _ (ap plain_request c.in-Fetch.is ∙ ap (fetch (plain_key c.in-Fetch.key)) c.in-None.is) c.without_listing-in-None.ensures
    (c.answer_document.ensures.outcome (plain_session c.args.self.now))

pub returns-in-Some-clause-outcome : goal.returns-in-Some-clause-outcome
returns-in-Some-clause-outcome g c =
    equal_part _ _ _ _ _ _ _ _ _ _ _ _ _ _ (ap plain_request c.in-Fetch.is ∙ ap (fetch (plain_key c.in-Fetch.key)) c.in-Some.is) refl c.fetch_operations.ensures.outcome

pub returns-in-Submit-clause-outcome : goal.returns-in-Submit-clause-outcome
returns-in-Submit-clause-outcome g c =
    equal_part _ _ _ _ _ _ _ _ _ _ _ _ _ _ (ap plain_request c.in-Submit.is) c.without_listing-in-Submit.ensures c.submit.ensures.outcome

pub returns-in-Snapshot-clause-outcome : goal.returns-in-Snapshot-clause-outcome
returns-in-Snapshot-clause-outcome g c =
    equal_part _ _ _ _ _ _ _ _ _ _ _ _ _ _ (ap plain_request c.in-Snapshot.is) c.without_listing-in-Snapshot.ensures (c.answer_document-in-Snapshot.ensures.outcome (plain_session c.args.self.now))

pub returns-in-SnapshotAtTime-clause-outcome : goal.returns-in-SnapshotAtTime-clause-outcome
returns-in-SnapshotAtTime-clause-outcome g c =
    equal_part _ _ _ _ _ _ _ _ _ _ _ _ _ _ (ap plain_request c.in-SnapshotAtTime.is) c.without_listing-in-SnapshotAtTime.ensures (c.answer_document-in-SnapshotAtTime.ensures.outcome (plain_session c.args.self.now))

pub returns-in-Subscribe-clause-outcome : goal.returns-in-Subscribe-clause-outcome
returns-in-Subscribe-clause-outcome g c =
    equal_part _ _ _ _ _ _ _ _ _ _ _ _ _ _ (ap plain_request c.in-Subscribe.is) refl c.subscribe.ensures.outcome
