use Rattle.std.proofs.Common.{◌≡◌, ◌-◌, ◌*◌, ◌≤◌, length, take}
use Rattle.sdb_rope.specs.Utf16.{units}
use Rattle.sdb_rope.proofs.utf16.units.Given as goal

abbrev pub invariant-loop-start : goal.invariant-loop-start
invariant-loop-start l = record {
  within : l.start ≤ length l.bytes;
  counted : l.count ≡ units (take l.start l.bytes);
  few : l.count ≤ 2 * l.start;
}

abbrev pub decreases-loop-start : goal.decreases-loop-start
decreases-loop-start l = length l.bytes - l.start
