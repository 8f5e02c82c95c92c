use Rattle.std.proofs.Common.{refl}
use Rattle.sdb_oplog.specs.Keys.{plain_key}
use Rattle.sdb_desk.specs.ShardView.{logs_of, queues_of, state_of}
use Rattle.sdb_desk.specs.ReplyView.{plain_reply}
use Rattle.sdb_submit.specs.laws.ShardLaws.{commit_now_call}
use Rattle.sdb_service_tests.proofs.submit.ContendedStoreDesk.commit_last.Goals as goal

pub returns : goal.returns
returns c =
    let s = c.args.pass.now.shard in
    record {
      call = record {
        pass = record { accepted = tt; number_unchanged = refl };
        step = (logs_of s, (queues_of s, (commit_now_call 0 (plain_key c.args.key.now) (state_of s) (state_of c.commit_last.new.self) c.args.work.submission c.args.now (plain_reply c.commit_last.result) c.commit_last.ensures).step));
        caches = tt;
      };
    }
