use Rattle.std.proofs.Common.{◌≡◌, ◌+◌, ◌-◌, ◌≤◌, length, drop, option_map}
use Rattle.sdb_rope.specs.Utf16.{cut_at}
use Rattle.sdb_rope.proofs.utf16.skip.Given as goal

abbrev pub invariant-loop-start : goal.invariant-loop-start
invariant-loop-start l = record {
  within : l.start ≤ length l.bytes;
  same : cut_at l.bytes l.offset ≡ option_map (λ i. l.start + i) (cut_at (drop l.start l.bytes) l.left);
}

abbrev pub decreases-loop-start : goal.decreases-loop-start
decreases-loop-start l = length l.bytes - l.start
