use Rattle.std.proofs.Common.{sym, subst}
use Rattle.sdb_oplog.specs.Keys.{plain_key}
use Rattle.sdb_desk.specs.Machine.{PlainOutcome}
use Rattle.sdb_submit.specs.Calls.{OnMoved, commit}
use Rattle.sdb_backend.specs.CallAnswers.{AnsweredAtExtension, IsLookSeenBy}
use Rattle.sdb_backend.proofs.desk.BackendDesk.commit.Goals as goal

pub returns-clause-seen : goal.returns-clause-seen
returns-clause-seen g c =
    let k = plain_key c.args.key.now in
    let a = c.args.work.now in
    subst (λ (r : PlainOutcome). OnMoved r (λ l. IsLookSeenBy c.decide-decision.new.pass k (record { submission = a.submission; look = l }))) (sym c.finish.ensures.outcome) c.decide-decision.ensures.seen

pub returns-clause-call : goal.returns-clause-call
returns-clause-call g c =
    let k = plain_key c.args.key.now in
    let a = c.args.work.now in
    let d = c.decide-decision.ensures.answered in
    record {
      pass = record { accepted = c.decide-decision.ensures.pass; number_unchanged = d.number_unchanged };
      step = subst (λ (r : PlainOutcome). AnsweredAtExtension k (commit a c.args.now) c.args.pass.now r c.decide-decision.new.pass) (sym c.finish.ensures.outcome) d;
      caches = tt;
    }
