use Rattle.std.proofs.Common.{◌≡◌, ◌+◌, drop, option_map}
use Rattle.sdb_rope.specs.Utf16.{cut_at}
use Rattle.sdb_rope.proofs.utf16.walk_chars.Given as goal

abbrev pub invariant-loop-at : goal.invariant-loop-at
invariant-loop-at l = cut_at l.bytes l.offset ≡ option_map (λ i. l.at + i) (cut_at (drop l.at l.bytes) l.left)
