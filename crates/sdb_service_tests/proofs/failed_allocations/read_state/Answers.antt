use Rattle.std.proofs.Common.{ap}
use Rattle.sdb_oplog.specs.Keys.{plain_key}
use Rattle.sdb_desk.specs.ShardView.{logs_of}
use Rattle.sdb_service_tests.proofs.Looks.{same_stays}
use Rattle.sdb_service_tests.proofs.failed_allocations.read_state.Goals as goal

pub returns : goal.returns
returns g c =
    λ a h. same_stays (logs_of c.args.document.now.shard) (logs_of c.fetch.new.self) (plain_key c.args.document.now.key) a (ap (λ s. s.logs) c.fetch.ensures.unchanged) h
