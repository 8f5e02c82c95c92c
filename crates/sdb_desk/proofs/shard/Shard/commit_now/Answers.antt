use Rattle.std.proofs.Common.{Err, ap}
use Rattle.sdb_oplog.specs.Keys.{plain_key}
use Rattle.sdb_desk.specs.ReplyView.{plain_reply}
use Rattle.sdb_desk.specs.ShardView.{logs_of, state_of}
use Rattle.sdb_desk.proofs.DecideLemmas.{decides_rejected}
use Rattle.sdb_desk.proofs.StateLemmas.{follow_of_unchanged}
use Rattle.sdb_desk.proofs.shard.Shard.commit_now.Goals as goal

pub returns-in-Err : goal.returns-in-Err
returns-in-Err c =
    let e = c.in-Err.ensures in record {
      decides = decides_rejected (logs_of c.args.self.now) (logs_of c.append_now.new.self) (plain_key c.args.key.now) c.args.submission.now c.args.now c.in-Err.rejection (plain_reply c.from.result) c.from.ensures
          e.err (λ is. e.memory (ap Err is)) (ap (λ s. s.logs) e.unchanged_on_err);
      others = follow_of_unchanged (state_of c.args.self.now) (state_of c.append_now.new.self) e.unchanged_on_err;
    }
