use Rattle.std.proofs.Common.{◌≡◌, ◌≤◌, ◌++◌, length, reverse, true}
use Rattle.std.specs.List.{flat_map}
use Rattle.sdb_chunks.specs.Chunk.{items_of}
use Rattle.sdb_chunks.specs.ChunkedVec.{all_unique, max_chunk_length}
use Rattle.sdb_chunks.proofs.chunk_split.split_into_chunks.Given as goal

abbrev pub invariant-loop-left : goal.invariant-loop-left
invariant-loop-left g l = record {
  whole : l.left.items ++ flat_map items_of (reverse l.chunks.items) ≡ l.fn.items.items;
  own : all_unique l.chunks.items ≡ true;
  short : max_chunk_length l.chunks.items ≤ l.most;
}

abbrev pub decreases-loop-left : goal.decreases-loop-left
decreases-loop-left g l = length l.left.items
