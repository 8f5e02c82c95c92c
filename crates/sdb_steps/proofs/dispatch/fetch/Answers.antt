use Rattle.sdb_oplog.specs.Keys.{plain_key}
use Rattle.sdb_desk.specs.ShardView.{state_of}
use Rattle.sdb_desk.specs.laws.StateLaws.{machine_unchanged}
use Rattle.sdb_steps.specs.StateView.{one_step_of_shard}
use Rattle.sdb_steps.specs.View.{plain_fetched}
use Rattle.sdb_steps.proofs.CommitLemmas.{same_core}
use Rattle.sdb_steps.proofs.QueueStepLemmas.{fetch_refused, fetch_read}
use Rattle.sdb_steps.proofs.dispatch.fetch.Goals as goal

pub returns-in-Err-clause-dispatches : goal.returns-in-Err-clause-dispatches
returns-in-Err-clause-dispatches c =
    let m = one_step_of_shard c.args.shard.now in
    let n = one_step_of_shard c.fetch.new.self in
    let k = plain_key c.args.key.now in
    let same = machine_unchanged (state_of c.args.shard.now) (state_of c.fetch.new.self) c.fetch.ensures.unchanged in
    let told = c.in-Err.ensures in
    λ i x. fetch_refused i m n x k c.in-Err.field-0 told.fetched (same_core c.args.shard.now c.fetch.new.self same.0 same.1)

pub returns-in-Ok-clause-dispatches : goal.returns-in-Ok-clause-dispatches
returns-in-Ok-clause-dispatches c =
    let m = one_step_of_shard c.args.shard.now in
    let n = one_step_of_shard c.fetch.new.self in
    let k = plain_key c.args.key.now in
    let same = machine_unchanged (state_of c.args.shard.now) (state_of c.fetch.new.self) c.fetch.ensures.unchanged in
    let told = c.in-Ok.ensures in
    λ i x. fetch_read i m n x k (plain_fetched c.in-Ok.fetched) told.fetched (same_core c.args.shard.now c.fetch.new.self same.0 same.1)
