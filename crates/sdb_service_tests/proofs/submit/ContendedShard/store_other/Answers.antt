use Rattle.sdb_oplog.specs.Keys.{plain_key}
use Rattle.sdb_desk.specs.ReplyView.{plain_reply}
use Rattle.sdb_desk.specs.ShardView.{logs_of}
use Rattle.sdb_service_tests.proofs.Looks.{decided_stays}
use Rattle.sdb_service_tests.proofs.submit.ContendedShard.store_other.Goals as goal

pub returns-in-Some : goal.returns-in-Some
returns-in-Some c =
    λ a h.
    decided_stays (logs_of c.args.self.now.shard) (logs_of c.commit_now.new.self) (plain_key c.args.key.now) c.in-Some.other c.zero.result (plain_reply c.commit_now.result) a
    c.commit_now.ensures.decides h
