use Rattle.std.proofs.Common.{◌≡◌, ◌≤◌, ◌*◌, length, take}
use Rattle.std.specs.List.{flat_map}
use Rattle.sdb_chunks.specs.Chunk.{items_of}
use Rattle.sdb_chunks.proofs.chunk_group.count_items_of.Given as goal

abbrev pub invariant-loop-chunk : goal.invariant-loop-chunk
invariant-loop-chunk g l = record {
  sum : l.count ≡ length (flat_map items_of (take l.chunk-index l.chunks));
  few : l.count ≤ l.chunk-index * 18446744073709551615;
}
