use Rattle.std.proofs.Common.{◌≡◌, ◌-◌, length, take, All}
use Rattle.std.specs.List.{concat}
use Rattle.std.specs.Str.{IsCharBoundary}
use Rattle.sdb_rope.specs.RopeChunk.{chunk_list_texts, IsUniqueChunk}
use Rattle.sdb_rope.specs.Position.{AreBounded}
use Rattle.sdb_rope.proofs.insert.split_chunks.Given as goal

abbrev pub invariant-loop-start : goal.invariant-loop-start
invariant-loop-start l = record {
  boundary : IsCharBoundary l.text l.start;
  same : concat (chunk_list_texts l.chunks.items) ≡ take l.start l.text;
  own : All IsUniqueChunk l.chunks.items;
  short : AreBounded (chunk_list_texts l.chunks.items);
}

abbrev pub decreases-loop-start : goal.decreases-loop-start
decreases-loop-start l = length l.text - l.start
