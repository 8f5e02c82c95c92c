use Rattle.std.proofs.Common.{◌≡◌, ◌+◌, ◌-◌, ◌≤◌, min, length}
use Rattle.std.specs.List.{concat}
use Rattle.sdb_chunks.specs.Iter.{remaining_items}
use Rattle.sdb_rope.specs.RopeChunk.{chunk_list_texts}
use Rattle.sdb_rope.proofs.read.bytes_up_to.Given as goal

abbrev pub invariant-loop-chunk : goal.invariant-loop-chunk
invariant-loop-chunk l = record {
  within : l.left ≤ l.limit;
  counted : (l.limit - l.left) + min l.left (length (concat (chunk_list_texts (remaining_items l.chunk-iterator)))) ≡ min l.limit (length (concat (chunk_list_texts (remaining_items l.chunks))));
}
