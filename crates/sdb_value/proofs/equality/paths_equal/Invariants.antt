use Rattle.std.proofs.Common.{◌≡◌, take, map, length}
use Rattle.sdb_value.specs.View.{plain_step}
use Rattle.sdb_value.proofs.equality.paths_equal.Given as goal

abbrev pub invariant-loop-at : goal.invariant-loop-at
invariant-loop-at l = record { long : length l.a ≡ length l.b; same : map plain_step (take l.at l.a) ≡ map plain_step (take l.at l.b) }
