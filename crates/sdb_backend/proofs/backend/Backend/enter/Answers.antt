use Rattle.std.proofs.Common.{◌≡◌, sym, subst}
use Rattle.sdb_desk.specs.ShardView.{machine_of}
use Rattle.sdb_striped_lock.specs.laws.SeatLaws.{root_has_seen_unique}
use Rattle.sdb_striped_lock.specs.declared.striped_lock.RootSeats.{RootSeats}
use Rattle.sdb_backend.specs.HistoryOrder.{share_of, empty_share}
use Rattle.sdb_backend.specs.PassModel.{HasRootSeatsOf}
use Rattle.sdb_backend.specs.declared.shard_value.Held.{Held}
use Rattle.sdb_backend.proofs.backend.Backend.enter.Goals as goal

pub returns-in-Ok-clause-host : goal.returns-in-Ok-clause-host
returns-in-Ok-clause-host g c = (
  c.split.ensures.belongs,
  λ i lt.
      let s = c.in-Ok.ensures.ok.seen i lt in
      let y = c.requires.1 i lt in
      let e : s.0 ≡ y.0 = root_has_seen_unique c.args.host.now.seats i s.0 y.0 s.1 y.1 in
      (s.0, s.2, subst (λ (h : Held). share_of 0 (machine_of h.shard) ≡ empty_share) (sym e) y.2),
)

pub returns-in-Ok-clause-ok : goal.returns-in-Ok-clause-ok
returns-in-Ok-clause-ok g c =
    let made = c.in-Ok.ensures.ok in
    record {
      belongs = made.belongs;
      has_number = made.has_number;
      below_max = made.below_max;
      next_grows = made.next_grows;
      has_empty_share = λ i lt. let s = made.seen i lt in (s.0, s.3, s.4);
      seen_before = λ i lt. let s = made.seen i lt in (s.0, s.1, s.3);
      seen_after = λ i lt. let s = made.seen i lt in (s.0, s.2, s.3);
    }

pub returns-in-Err-OutOfNumbers-clause-host : goal.returns-in-Err-OutOfNumbers-clause-host
returns-in-Err-OutOfNumbers-clause-host g c = subst (λ (f : RootSeats Held). HasRootSeatsOf (record { seats = f }) c.args.self.now.locks) (sym c.in-Err-OutOfNumbers.ensures.err.unchanged) c.requires

pub returns-in-Err-OutOfMemory-clause-host : goal.returns-in-Err-OutOfMemory-clause-host
returns-in-Err-OutOfMemory-clause-host g c = subst (λ (f : RootSeats Held). HasRootSeatsOf (record { seats = f }) c.args.self.now.locks) (sym c.in-Err-OutOfMemory.ensures.err.unchanged) c.requires
