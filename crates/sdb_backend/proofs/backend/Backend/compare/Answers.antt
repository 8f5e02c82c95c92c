use Rattle.std.proofs.Common.{subst}
use Rattle.sdb_striped_lock.specs.SeatSetModel.{SeatSetHasSeen}
use Rattle.sdb_backend.proofs.backend.Backend.compare.Goals as goal

pub returns-clause-compared : goal.returns-clause-compared
returns-clause-compared g c =
    let d = c.compare.ensures.extended in
    record {
      first_observed = d.0;
      second_observed = d.1;
      history = d.2;
      first_seen = subst (λ i. SeatSetHasSeen c.args.first.now.seats i d.0) c.shard.ensures.shard d.3;
      first_seen_after = subst (λ i. SeatSetHasSeen c.compare.new.first i d.0) c.shard.ensures.shard d.4;
      second_seen = subst (λ i. SeatSetHasSeen c.args.second.now.seats i d.1) c.shard.ensures.shard d.5;
      second_seen_after = subst (λ i. SeatSetHasSeen c.compare.new.second i d.1) c.shard.ensures.shard d.6;
      extends_first = d.7;
      extends_second = d.8;
    }
