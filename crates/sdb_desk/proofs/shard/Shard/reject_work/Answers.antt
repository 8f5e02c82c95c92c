use Rattle.std.proofs.Common.{subst}
use Rattle.sdb_oplog.specs.DecidedLog.{CanStore, IsRejectedAs}
use Rattle.sdb_oplog.specs.Keys.{plain_key}
use Rattle.sdb_desk.specs.ShardView.{log_at, state_of}
use Rattle.sdb_desk.proofs.RefusalLemmas.{commit_of_rejection, commit_of_code}
use Rattle.sdb_desk.proofs.shard.Shard.reject_work.Goals as goal

pub returns-in-Err : goal.returns-in-Err
returns-in-Err c = λ now.
    let log = log_at c.args.self.now c.args.key.now in
    commit_of_rejection (state_of c.args.self.now) (plain_key c.args.key.now) now c.in-Err.rejection c.args.work.now c.requires.look
    c.requires.current (subst (λ s. IsRejectedAs log s now c.in-Err.rejection) c.submission.ensures (c.in-Err.ensures.err now))

pub returns-in-Err-snapshot : goal.returns-in-Err-snapshot
returns-in-Err-snapshot c = λ now.
    let log = log_at c.args.self.now c.args.key.now in
    commit_of_code (state_of c.args.self.now) (plain_key c.args.key.now) now c.from.result c.args.work.now
    c.requires.look c.requires.current c.in-Err-snapshot.code c.from.ensures
    (subst (CanStore log) c.submission.ensures c.in_default.ensures.ok) c.in-Err-snapshot.ensures.err
