use Rattle.std.proofs.Common.{subst}
use Rattle.sdb_striped_lock.specs.SeatSetModel.{SeatSetHasSeen, ChangedOnlyAt}
use Rattle.sdb_backend.proofs.backend.Backend.run.Goals as goal

pub returns-clause-ran : goal.returns-clause-ran
returns-clause-ran g c =
    let d = c.with.ensures.ran in
    record {
      observed = d.0;
      history = d.1;
      next = d.2;
      seen_before = subst (λ i. SeatSetHasSeen c.args.pass.now.seats i d.0) c.shard.ensures.shard d.3;
      extends = d.4;
      share_unchanged = d.5;
      ran = d.6;
      seen_after = subst (λ i. SeatSetHasSeen c.with.new.seats i d.2) c.shard.ensures.shard d.9;
      number_unchanged = c.with.ensures.seats.number_unchanged;
      others_unchanged = subst (λ i. ChangedOnlyAt i c.args.pass.now.seats c.with.new.seats) c.shard.ensures.shard c.with.ensures.seats.others_unchanged;
    }
