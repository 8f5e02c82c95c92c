use Rattle.sdb_oplog.specs.Keys.{plain_key}
use Rattle.sdb_desk.specs.ReplyView.{plain_reply}
use Rattle.sdb_desk.specs.ShardView.{logs_of}
use Rattle.sdb_service_tests.proofs.Looks.{decided_stays}
use Rattle.sdb_service_tests.proofs.desk.TestDocument.commit_now.Goals as goal

pub returns : goal.returns
returns c =
    λ a h.
    decided_stays (logs_of c.args.self.now.shard) (logs_of c.commit_now.new.self) (plain_key c.args.self.now.key) c.args.submission c.zero.result (plain_reply c.commit_now.result) a
    c.commit_now.ensures.decides h
