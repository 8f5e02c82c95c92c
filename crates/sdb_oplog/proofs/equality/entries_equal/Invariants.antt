use Rattle.std.proofs.Common.{◌≡◌, take, length}
use Rattle.sdb_oplog.proofs.equality.entries_equal.Given as goal

abbrev pub invariant-loop-at : goal.invariant-loop-at
invariant-loop-at l = record { long : length l.a ≡ length l.b; same : take l.at l.a ≡ take l.at l.b }
