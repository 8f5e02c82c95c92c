use Rattle.std.proofs.Common.{◌≡◌, ◌++◌, ℕ, List, length}
use Rattle.sdb_chunks.specs.Iter.{remaining_items}
use Rattle.sdb_rope.specs.Cursor.{remaining_bytes}
use Rattle.sdb_rope.proofs.compare.ChunkCursor.advance.Given as goal

abbrev pub invariant-loop-self : goal.invariant-loop-self
invariant-loop-self l = record {
  same : (more : List ℕ) → remaining_bytes l.self ≡ l.wanted ++ more → remaining_bytes l.initial.self ≡ l.text ++ more;
  other : (more : List ℕ) → remaining_bytes l.initial.self ≡ l.text ++ more → remaining_bytes l.self ≡ l.wanted ++ more;
}

abbrev pub decreases-loop-self : goal.decreases-loop-self
decreases-loop-self l = length (remaining_items l.self.rest)
