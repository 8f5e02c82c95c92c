use Rattle.std.proofs.Common.{◌≡◌, ◌≤◌, map, vec_len, vec_capacity}
use Rattle.sdb_backend.proofs.pass_check.seat_sets_of.Given as goal

abbrev pub invariant-loop-pass : goal.invariant-loop-pass
invariant-loop-pass l =
    record {
      seats : l.seats.items ≡ map (λ p. p.seats) l.yielded;
      room : vec_len l.fn.passes ≤ vec_capacity l.seats;
    }
