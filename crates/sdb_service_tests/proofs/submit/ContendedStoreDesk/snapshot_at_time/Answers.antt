use Rattle.std.proofs.Common.{refl}
use Rattle.sdb_oplog.specs.Keys.{plain_key}
use Rattle.sdb_desk.specs.ShardView.{logs_of, queues_of, state_of}
use Rattle.sdb_desk.specs.View.{fetch_result_view}
use Rattle.sdb_submit.specs.laws.ShardLaws.{snapshot_at_time_call}
use Rattle.sdb_service_tests.proofs.submit.ContendedStoreDesk.snapshot_at_time.Goals as goal

pub returns : goal.returns
returns c =
    let s = c.args.pass.now.shard in
    record {
      call = record {
        pass = record { accepted = tt; number_unchanged = refl };
        step = (logs_of s, (queues_of s, (snapshot_at_time_call 0 (plain_key c.args.key.now) (state_of s) (state_of c.snapshot_at_time.new.self) c.args.moment (fetch_result_view c.snapshot_at_time.result) c.snapshot_at_time.ensures.snapshot c.snapshot_at_time.ensures.cache).step));
        caches = tt;
      };
    }
