use Rattle.std.proofs.Common.{ap, ◌∙◌, subst}
use Rattle.sdb_oplog.specs.Keys.{plain_key}
use Rattle.sdb_oplog.specs.Plain.{PlainSubmission}
use Rattle.sdb_desk.specs.ReplyView.{plain_reply}
use Rattle.sdb_submit.specs.Calls.{look, commit_now, look_view}
use Rattle.sdb_backend.specs.CallAnswers.{AnsweredAtExtension}
use Rattle.sdb_backend.proofs.StepLemmas.{answered_after_unchanged}
use Rattle.sdb_backend.proofs.desk.BackendDesk.commit_last.Goals as goal

pub returns-in_default : goal.returns-in_default
returns-in_default g c =
    let k = plain_key c.args.key.now in
    let s = c.args.work.submission in
    let l = c.look.ensures.call in
    let o = c.look.new.pass in
    let q = c.commit_now.new.pass in
    let r = plain_reply c.commit_now.result in
    let d = c.commit_now.ensures.call in
    let step = subst (λ (x : PlainSubmission). AnsweredAtExtension k (commit_now x c.args.now) o r q) c.submission-in_default.ensures d.step in
    record {
      call = record {
        pass = record { accepted = d.pass.accepted; number_unchanged = d.pass.number_unchanged ∙ l.pass.number_unchanged };
        step = answered_after_unchanged k (look c.submission.result.now) (commit_now s c.args.now) (look_view c.look.result) r c.args.pass.now o q l.step l.step.ran.1 step;
        caches = tt;
      };
    }

pub returns-in-Ok-resume_work : goal.returns-in-Ok-resume_work
returns-in-Ok-resume_work g c =
    let k = plain_key c.args.key.now in
    let s = c.args.work.submission in
    let l = c.look.ensures.call in
    let o = c.look.new.pass in
    let q = c.commit_resumed.new.pass in
    let r = plain_reply c.commit_resumed.result in
    let d = c.commit_resumed.ensures.answered in
    let step = subst (λ (x : PlainSubmission). AnsweredAtExtension k (commit_now x c.args.now) o r q) (ap (λ w. w.submission) c.in-Ok-resume_work.ensures.ok) d in
    record {
      call = record {
        pass = record { accepted = c.commit_resumed.ensures.pass; number_unchanged = d.number_unchanged ∙ l.pass.number_unchanged };
        step = answered_after_unchanged k (look c.submission.result.now) (commit_now s c.args.now) (look_view c.look.result) r c.args.pass.now o q l.step l.step.ran.1 step;
        caches = tt;
      };
    }

pub returns-in-Err : goal.returns-in-Err
returns-in-Err g c =
    let k = plain_key c.args.key.now in
    let s = c.args.work.submission in
    let l = c.look.ensures.call in
    let o = c.look.new.pass in
    let q = c.commit_now-in-Err.new.pass in
    let r = plain_reply c.commit_now-in-Err.result in
    let d = c.commit_now-in-Err.ensures.call in
    let step = subst (λ (x : PlainSubmission). AnsweredAtExtension k (commit_now x c.args.now) o r q) (ap (λ a. a.submission) c.in-Err.ensures.err) d.step in
    record {
      call = record {
        pass = record { accepted = d.pass.accepted; number_unchanged = d.pass.number_unchanged ∙ l.pass.number_unchanged };
        step = answered_after_unchanged k (look c.submission.result.now) (commit_now s c.args.now) (look_view c.look.result) r c.args.pass.now o q l.step l.step.ran.1 step;
        caches = tt;
      };
    }
