use Rattle.std.proofs.Common.{◌≡◌}
use Rattle.sdb_growlock.specs.SeatModel.{BelongsTo, number, next}
use Rattle.sdb_model_tests.proofs.growlock.add_all.Given as goal

abbrev pub invariant-loop : goal.invariant-loop
invariant-loop g l = record {
  own : BelongsTo l.seat l.initial.lock;
  number : number l.seat ≡ number l.initial.seat;
  next : next l.seat ≡ next l.initial.seat;
}
