use Rattle.std.proofs.Common.{ap}
use Rattle.sdb_desk.specs.ShardState.{machine_of_state}
use Rattle.sdb_backend.specs.HistoryOrder.{share_of}
use Rattle.sdb_backend.proofs.shard_value.HeldEmpty.empty.Goals as goal

pub returns : goal.returns
returns c = λ k. ap (λ s. share_of k (machine_of_state s)) c.new.ensures.state
