use Rattle.sdb_oplog.specs.Keys.{plain_key}
use Rattle.sdb_desk.specs.ReplyView.{plain_reply}
use Rattle.sdb_desk.specs.ShardView.{machine_of}
use Rattle.sdb_submit.specs.laws.SubmitLaws.{submit_is_atomic}
use Rattle.sdb_submit.proofs.solo.submit_alone.Goals as goal

pub returns-clause-decides : goal.returns-clause-decides
returns-clause-decides g c =
    (submit_is_atomic machine_of 0 (plain_key c.args.key.now) c.args.submission c.args.now c.args.shard.now c.submit.new.pass (plain_reply c.submit.result) c.submit.ensures.chain).0

pub returns-clause-queues : goal.returns-clause-queues
returns-clause-queues g c =
    (submit_is_atomic machine_of 0 (plain_key c.args.key.now) c.args.submission c.args.now c.args.shard.now c.submit.new.pass (plain_reply c.submit.result) c.submit.ensures.chain).1
