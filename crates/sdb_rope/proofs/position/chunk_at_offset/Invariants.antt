use Rattle.std.proofs.Common.{◌≡◌, ◌+◌, take}
use Rattle.std.specs.List.{concat}
use Rattle.sdb_rope.specs.Utf16.{units}
use Rattle.sdb_rope.specs.RopeChunk.{chunk_list_texts}
use Rattle.sdb_rope.proofs.position.chunk_at_offset.Given as goal

abbrev pub invariant-loop-at : goal.invariant-loop-at
invariant-loop-at l = units (concat (take l.at (chunk_list_texts l.chunks))) + l.left ≡ l.offset
