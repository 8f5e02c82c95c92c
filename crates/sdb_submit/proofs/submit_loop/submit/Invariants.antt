use Rattle.std.proofs.Common.{◌≡◌, ◌-◌, true, OnErr}
use Rattle.sdb_oplog.specs.Decide.{PlainReply}
use Rattle.sdb_oplog.specs.Keys.{plain_key}
use Rattle.sdb_desk.specs.Machine.{work_allocates}
use Rattle.sdb_submit.specs.SubmitLoop.{SubmitRetries, SubmitRelation}
use Rattle.sdb_submit.proofs.SubmitLoopLemmas.{attempt_of_result}
use Rattle.sdb_submit.proofs.submit_loop.submit.Given as goal

abbrev pub invariant-loop-try_no : goal.invariant-loop-try_no
invariant-loop-try_no g l =
    let d = l.desk in
    let k = plain_key l.key in
    let s = l.fn.submission in
    record {
      same : (attempt_of_result l.made).submission ≡ s;
      memory : OnErr l.made (work_allocates (attempt_of_result l.made) ≡ true);
      takes : g.D.Desk.accepts d l.pass;
      number : g.D.Desk.pass_number d l.pass ≡ g.D.Desk.pass_number d l.fn.pass;
      looked : g.D.Desk.has_seen d k (attempt_of_result l.made) l.pass;
      chain : (r : PlainReply) (q : _) → SubmitRetries (g.D.Desk.step d k) s l.now (9 - l.try_no) (attempt_of_result l.made).look l.pass r q
          → SubmitRelation (g.D.Desk.step d k) s l.now l.fn.pass r q;
    }
