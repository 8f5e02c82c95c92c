use Rattle.std.proofs.Common.{refl}
use Rattle.sdb_oplog.specs.Keys.{plain_key}
use Rattle.sdb_desk.specs.ShardView.{logs_of, queues_of, state_of}
use Rattle.sdb_desk.specs.View.{plain_outcome}
use Rattle.sdb_submit.specs.laws.ShardLaws.{commit_call}
use Rattle.sdb_submit.specs.laws.SubmitLaws.{moved_is_look}
use Rattle.sdb_service_tests.proofs.submit.ContendedStoreDesk.commit.Goals as goal

pub returns-clause-seen : goal.returns-clause-seen
returns-clause-seen c =
    moved_is_look (logs_of c.store_other.new.self.shard) (logs_of c.commit.new.self) (plain_key c.args.key.now) c.args.work.now c.args.now (plain_outcome c.commit.result) c.commit.ensures.commits.commits

pub returns-clause-call : goal.returns-clause-call
returns-clause-call c =
    let s = c.store_other.new.self.shard in
    record {
      pass = record { accepted = tt; number_unchanged = refl };
      step = (logs_of s, (queues_of s, (commit_call 0 (plain_key c.args.key.now) (state_of s) (state_of c.commit.new.self) c.args.work.now c.args.now (plain_outcome c.commit.result) c.commit.ensures.commits).step));
      caches = tt;
    }
