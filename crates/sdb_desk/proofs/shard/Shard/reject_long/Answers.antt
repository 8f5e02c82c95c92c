use Rattle.sdb_oplog.specs.Keys.{plain_key}
use Rattle.sdb_desk.specs.ShardView.{state_of}
use Rattle.sdb_desk.proofs.RefusalLemmas.{decision_of_rejection}
use Rattle.sdb_desk.proofs.shard.Shard.reject_long.Goals as goal

pub returns-in-Err : goal.returns-in-Err
returns-in-Err c = λ now.
    decision_of_rejection (state_of c.args.self.now) (plain_key c.args.key.now) now c.in-Err.rejection c.args.submission.now
    (c.in-Err.ensures.err now)
