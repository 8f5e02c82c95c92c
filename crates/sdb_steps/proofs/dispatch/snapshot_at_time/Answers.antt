use Rattle.sdb_oplog.specs.Keys.{plain_key}
use Rattle.sdb_desk.specs.ShardView.{state_of}
use Rattle.sdb_desk.specs.laws.StateLaws.{machine_of_cache_change}
use Rattle.sdb_steps.specs.StateView.{one_step_of_shard}
use Rattle.sdb_steps.specs.View.{plain_fetched}
use Rattle.sdb_steps.proofs.CommitLemmas.{same_core}
use Rattle.sdb_steps.proofs.QueueStepLemmas.{at_time_refused, at_time_read}
use Rattle.sdb_steps.proofs.dispatch.snapshot_at_time.Goals as goal

pub returns-in-Err-clause-dispatches : goal.returns-in-Err-clause-dispatches
returns-in-Err-clause-dispatches c =
    let m = one_step_of_shard c.args.shard.now in
    let n = one_step_of_shard c.snapshot_at_time.new.self in
    let k = plain_key c.args.key.now in
    let same = machine_of_cache_change k (state_of c.args.shard.now) (state_of c.snapshot_at_time.new.self) c.snapshot_at_time.ensures.cache.1 in
    let told = c.in-Err.ensures in
    λ i x. at_time_refused i m n x k c.args.moment c.in-Err.field-0 told.snapshot (same_core c.args.shard.now c.snapshot_at_time.new.self same.0 same.1)

pub returns-in-Ok-clause-dispatches : goal.returns-in-Ok-clause-dispatches
returns-in-Ok-clause-dispatches c =
    let m = one_step_of_shard c.args.shard.now in
    let n = one_step_of_shard c.snapshot_at_time.new.self in
    let k = plain_key c.args.key.now in
    let same = machine_of_cache_change k (state_of c.args.shard.now) (state_of c.snapshot_at_time.new.self) c.snapshot_at_time.ensures.cache.1 in
    let told = c.in-Ok.ensures in
    λ i x. at_time_read i m n x k c.args.moment (plain_fetched c.in-Ok.fetched) told.snapshot (same_core c.args.shard.now c.snapshot_at_time.new.self same.0 same.1)
