use Rattle.std.proofs.Common.{sym, subst}
use Rattle.sdb_oplog.specs.Keys.{plain_key}
use Rattle.sdb_desk.specs.ShardView.{state_of, machine_of}
use Rattle.sdb_desk.specs.ReplyView.{plain_reply}
use Rattle.sdb_desk.specs.StateChanges.{StateAfterDecision}
use Rattle.sdb_submit.specs.laws.ShardLaws.{commit_now_call}
use Rattle.sdb_backend.proofs.HistoryGrowth.{MachineGrows, call_grown}
use Rattle.sdb_backend.proofs.commit_jobs.CommitNowJobJobHeld.run.Goals as goal

pub returns-clause-extends : goal.returns-clause-extends
returns-clause-extends c =
    let e = sym c.list_reply.ensures.shard in
    let m = machine_of c.args.held.now.shard in
    let decides = subst (λ h. StateAfterDecision (plain_key c.args.self.key.now) c.args.self.submission.now c.args.self.now (plain_reply c.commit_short-reply.result) (state_of h) (state_of c.commit_short-reply.new.self)) c.in-Ok.ensures.shard c.commit_short-reply.ensures in
    (subst (λ s. MachineGrows c.args._number m (machine_of s)) e (call_grown _ _ _ _ _ _ c.requires (commit_now_call c.args._number (plain_key c.args.self.key.now) (state_of c.args.held.now.shard) (state_of c.commit_short-reply.new.self) c.args.self.submission.now c.args.self.now (plain_reply c.commit_short-reply.result) decides))).extends

pub returns-clause-others_unchanged : goal.returns-clause-others_unchanged
returns-clause-others_unchanged c =
    let e = sym c.list_reply.ensures.shard in
    let m = machine_of c.args.held.now.shard in
    let decides = subst (λ h. StateAfterDecision (plain_key c.args.self.key.now) c.args.self.submission.now c.args.self.now (plain_reply c.commit_short-reply.result) (state_of h) (state_of c.commit_short-reply.new.self)) c.in-Ok.ensures.shard c.commit_short-reply.ensures in
    (subst (λ s. MachineGrows c.args._number m (machine_of s)) e (call_grown _ _ _ _ _ _ c.requires (commit_now_call c.args._number (plain_key c.args.self.key.now) (state_of c.args.held.now.shard) (state_of c.commit_short-reply.new.self) c.args.self.submission.now c.args.self.now (plain_reply c.commit_short-reply.result) decides))).others
