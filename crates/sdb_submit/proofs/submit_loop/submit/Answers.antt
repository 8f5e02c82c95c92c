use Rattle.std.proofs.Common.{◌≡◌, ℕ, suc, ◌-◌, ◌+◌, true, Result, OnErr, sym, ap, ◌∙◌, arith, subst}
use Rattle.sdb_oplog.specs.Decide.{PlainReply}
use Rattle.sdb_oplog.specs.Keys.{plain_key}
use Rattle.sdb_oplog.specs.Plain.{PlainSubmission}
use Rattle.sdb_desk.specs.Machine.{PlainAttempt, WorkAfterCommit, decided, work_allocates}
use Rattle.sdb_desk.specs.ReplyView.{plain_reply}
use Rattle.sdb_desk.specs.View.{plain_attempt, plain_look}
use Rattle.sdb_desk.specs.declared.work.Attempt.{Attempt}
use Rattle.sdb_submit.specs.Calls.{commit_now}
use Rattle.sdb_submit.specs.SubmitLoop.{SubmitRetries}
use Rattle.sdb_submit.proofs.SubmitLoopLemmas.{attempt_of_result, result_is, result_allocates, by_last, by_unworked, by_out_of_memory, by_decided, by_moved}
use Rattle.sdb_submit.proofs.submit_loop.submit.Goals as goal

pub returns-in-Err-clause-chain : goal.returns-in-Err-clause-chain
returns-in-Err-clause-chain g c =
    let t = c.loop-try_no.try_no in
    let left : 9 - t ≡ suc (8 - t) = omega arith in
    let acts = g.D.Desk.step c.args.desk.now (plain_key c.args.key.now) in
    let s = c.args.submission in
    let q = c.commit_now-in-Err.new.pass in
    let r = plain_reply c.commit_now-in-Err.result in
    let same : c.in-Err.attempt.submission ≡ s = ap (λ (x : Result PlainAttempt Attempt). (attempt_of_result x).submission) (sym c.in-Err.is) ∙ c.loop-try_no.invariant.same in
    let wants = subst (λ (x : Result PlainAttempt Attempt). OnErr x (work_allocates (attempt_of_result x) ≡ true)) c.in-Err.is c.loop-try_no.invariant.memory in
    c.loop-try_no.invariant.chain r q
    (subst (λ (x : Result PlainAttempt Attempt). SubmitRetries acts s c.args.now (9 - t) (attempt_of_result x).look c.loop-try_no.pass r q) (sym c.in-Err.is)
    (by_unworked acts s c.args.now (9 - t) (8 - t) (plain_attempt c.in-Err.attempt) c.loop-try_no.pass q r left same wants c.commit_now-in-Err.ensures.call.step))

pub returns-then-is_out_of_memory-clause-chain : goal.returns-then-is_out_of_memory-clause-chain
returns-then-is_out_of_memory-clause-chain g c =
    let t = c.loop-try_no.try_no in
    let left : 9 - t ≡ suc (8 - t) = omega arith in
    let acts = g.D.Desk.step c.args.desk.now (plain_key c.args.key.now) in
    let s = c.args.submission in
    let w = c.in-Ok-made.worked in
    let o = c.commit.new.pass in
    let q = c.commit_now-then-is_out_of_memory.new.pass in
    let r = plain_reply c.commit_now-then-is_out_of_memory.result in
    let same : w.submission ≡ s = ap (λ (x : Result PlainAttempt Attempt). (attempt_of_result x).submission) (sym c.in-Ok-made.is) ∙ c.loop-try_no.invariant.same in
    let wants = c.is_out_of_memory.ensures.memory c.if-is_out_of_memory.true in
    let kept : c.commit.new.work ≡ w = subst (λ (x : PlainReply). WorkAfterCommit (decided x) w c.commit.new.work) wants c.in-Decided.ensures.work in
    let sent = c.submission-then-is_out_of_memory.ensures ∙ ap (λ (a : PlainAttempt). a.submission) kept ∙ same in
    let last = subst (λ (x : PlainSubmission). acts (commit_now x c.args.now) o r q) sent c.commit_now-then-is_out_of_memory.ensures.call.step in
    c.loop-try_no.invariant.chain r q
    (subst (λ (x : Result PlainAttempt Attempt). SubmitRetries acts s c.args.now (9 - t) (attempt_of_result x).look c.loop-try_no.pass r q) (sym c.in-Ok-made.is)
    (by_out_of_memory acts s c.args.now (9 - t) (8 - t) w.look w c.loop-try_no.pass o q r (plain_reply c.in-Decided.reply) left (λ i. record { submission = same i; look = w.look }) c.in-Decided.ensures.call.step wants last))

pub returns-in-Decided-clause-chain : goal.returns-in-Decided-clause-chain
returns-in-Decided-clause-chain g c =
    let t = c.loop-try_no.try_no in
    let left : 9 - t ≡ suc (8 - t) = omega arith in
    let acts = g.D.Desk.step c.args.desk.now (plain_key c.args.key.now) in
    let s = c.args.submission in
    let w = c.in-Ok-made.worked in
    let q = c.commit.new.pass in
    let r = plain_reply c.in-Decided.reply in
    let same : w.submission ≡ s = ap (λ (x : Result PlainAttempt Attempt). (attempt_of_result x).submission) (sym c.in-Ok-made.is) ∙ c.loop-try_no.invariant.same in
    c.loop-try_no.invariant.chain r q
    (subst (λ (x : Result PlainAttempt Attempt). SubmitRetries acts s c.args.now (9 - t) (attempt_of_result x).look c.loop-try_no.pass r q) (sym c.in-Ok-made.is)
    (by_decided acts s c.args.now (9 - t) (8 - t) w.look w c.loop-try_no.pass q r left (λ i. record { submission = same i; look = w.look }) c.in-Decided.ensures.call.step (c.is_out_of_memory.ensures.on_false c.if-is_out_of_memory.false)))

pub loop-try_no-preserved : goal.loop-try_no-preserved
loop-try_no-preserved g c =
    let t = c.loop-try_no.try_no in
    let left : 9 - t ≡ suc (9 - (t + 1)) = omega arith in
    let d = c.args.desk.now in
    let k = plain_key c.args.key.now in
    let acts = g.D.Desk.step d k in
    let s = c.args.submission in
    let w = c.in-Ok-made.worked in
    let o = c.commit.new.pass in
    let l = plain_look c.in-Moved.fresh in
    let same : w.submission ≡ s = ap (λ (x : Result PlainAttempt Attempt). (attempt_of_result x).submission) (sym c.in-Ok-made.is) ∙ c.loop-try_no.invariant.same in
    let made = c.resume_work-made.result in
    let next : PlainAttempt = record { submission = c.commit.new.work.submission; look = l } in
    let kept = ap (λ (a : PlainAttempt). a.submission) c.in-Moved.ensures.work ∙ same in
    let is : attempt_of_result made ≡ record { submission = s; look = l } =
    result_is made next c.resume_work-made.ensures.ok c.resume_work-made.ensures.err ∙ ap (λ (x : PlainSubmission). let a : PlainAttempt = record { submission = x; look = l } in a) kept in
    record {
      same = ap (λ (a : PlainAttempt). a.submission) is;
      memory = result_allocates made next c.resume_work-made.ensures.err c.resume_work-made.ensures.memory;
      takes = c.in-Moved.ensures.call.pass.accepted;
      number = c.in-Moved.ensures.call.pass.number_unchanged ∙ c.loop-try_no.invariant.number;
      looked = subst (λ (a : PlainAttempt). g.D.Desk.has_seen d k a o) (sym is) (subst (λ (x : PlainSubmission). g.D.Desk.has_seen d k (record { submission = x; look = l }) o) same c.in-Moved.ensures.seen);
      chain = λ r q h. c.loop-try_no.invariant.chain r q
          (subst (λ (x : Result PlainAttempt Attempt). SubmitRetries acts s c.args.now (9 - t) (attempt_of_result x).look c.loop-try_no.pass r q) (sym c.in-Ok-made.is)
          (by_moved acts s c.args.now (9 - t) (9 - (t + 1)) w.look l w c.loop-try_no.pass o q r left (λ i. record { submission = same i; look = w.look }) c.in-Moved.ensures.call.step
          (subst (λ (a : PlainAttempt). SubmitRetries acts s c.args.now (9 - (t + 1)) a.look o r q) is h)));
    }

pub returns-in-Ok-made-2-clause-chain : goal.returns-in-Ok-made-2-clause-chain
returns-in-Ok-made-2-clause-chain g c =
    let t = c.loop-try_no.try_no in
    let left : 9 - t ≡ 0 = omega arith in
    let acts = g.D.Desk.step c.args.desk.now (plain_key c.args.key.now) in
    let s = c.args.submission in
    let w = c.in-Ok-made-2.worked in
    let q = c.commit_last.new.pass in
    let r = plain_reply c.commit_last.result in
    let same : w.submission ≡ s = ap (λ (x : Result PlainAttempt Attempt). (attempt_of_result x).submission) (sym c.in-Ok-made-2.is) ∙ c.loop-try_no.invariant.same in
    c.loop-try_no.invariant.chain r q
    (by_last acts s c.args.now (9 - t) (attempt_of_result c.loop-try_no.made).look c.loop-try_no.pass q r w.submission left same c.commit_last.ensures.call.step)

pub returns-in-Err-made-clause-chain : goal.returns-in-Err-made-clause-chain
returns-in-Err-made-clause-chain g c =
    let t = c.loop-try_no.try_no in
    let left : 9 - t ≡ 0 = omega arith in
    let acts = g.D.Desk.step c.args.desk.now (plain_key c.args.key.now) in
    let s = c.args.submission in
    let a = c.in-Err-made.attempt in
    let q = c.commit_now-in-Err-made.new.pass in
    let r = plain_reply c.commit_now-in-Err-made.result in
    let same : a.submission ≡ s = ap (λ (x : Result PlainAttempt Attempt). (attempt_of_result x).submission) (sym c.in-Err-made.is) ∙ c.loop-try_no.invariant.same in
    c.loop-try_no.invariant.chain r q
    (by_last acts s c.args.now (9 - t) (attempt_of_result c.loop-try_no.made).look c.loop-try_no.pass q r a.submission left same c.commit_now-in-Err-made.ensures.call.step)
