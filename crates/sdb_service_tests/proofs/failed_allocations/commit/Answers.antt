use Rattle.std.proofs.Common.{subst}
use Rattle.sdb_oplog.specs.Keys.{plain_key}
use Rattle.sdb_desk.specs.Machine.{decided, WorkAfterCommit}
use Rattle.sdb_desk.specs.ReplyView.{plain_reply}
use Rattle.sdb_desk.specs.ShardView.{logs_of}
use Rattle.sdb_desk.specs.declared.document.Reply.{Reply}
use Rattle.sdb_service_tests.proofs.Looks.{committed_stays}
use Rattle.sdb_service_tests.proofs.failed_allocations.commit.Goals as goal

pub returns-in-Decided-Repeat : goal.returns-in-Decided-Repeat
returns-in-Decided-Repeat c =
    let r = c.in-Decided-Repeat in
    committed_stays (logs_of c.args.document.now.shard) (logs_of c.commit.new.self) (plain_key c.args.document.now.key) c.args.work.now c.commit.new.work c.zero.result (plain_reply r.field-0) r.ensures.commits.commits
    (subst (λ (x : Reply). WorkAfterCommit (decided (plain_reply x)) c.args.work.now c.commit.new.work) r.field-0-is r.ensures.work) c.requires

pub returns-in-Decided-Refused : goal.returns-in-Decided-Refused
returns-in-Decided-Refused c =
    let r = c.in-Decided-Refused in
    committed_stays (logs_of c.args.document.now.shard) (logs_of c.commit.new.self) (plain_key c.args.document.now.key) c.args.work.now c.commit.new.work c.zero.result (plain_reply r.field-0) r.ensures.commits.commits
    (subst (λ (x : Reply). WorkAfterCommit (decided (plain_reply x)) c.args.work.now c.commit.new.work) r.field-0-is r.ensures.work) c.requires
