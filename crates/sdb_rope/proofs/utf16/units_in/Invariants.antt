use Rattle.std.proofs.Common.{◌≡◌, ◌+◌, ◌*◌, ◌≤◌, drop}
use Rattle.sdb_rope.specs.Utf16.{units}
use Rattle.sdb_rope.proofs.utf16.units_in.Given as goal

abbrev pub invariant-loop-byte : goal.invariant-loop-byte
invariant-loop-byte l = record {
  counted : l.count + units (drop l.byte-index l.chunk) ≡ units l.chunk;
  few : l.count ≤ 2 * l.byte-index;
}
