use Rattle.std.proofs.Common.{◌≡◌}
use Rattle.std.specs.List.{concat}
use Rattle.sdb_chunks.specs.Iter.{remaining_items}
use Rattle.sdb_rope.specs.Cursor.{remaining_bytes}
use Rattle.sdb_rope.specs.RopeChunk.{chunk_list_texts}
use Rattle.sdb_rope.proofs.compare.chunks_equal.Given as goal

abbrev pub invariant-loop-other : goal.invariant-loop-other
invariant-loop-other l = record {
  same : remaining_bytes l.left ≡ concat (chunk_list_texts (remaining_items l.other-iterator)) → concat (chunk_list_texts (remaining_items l.chunks)) ≡ concat (chunk_list_texts (remaining_items l.others));
  other : concat (chunk_list_texts (remaining_items l.chunks)) ≡ concat (chunk_list_texts (remaining_items l.others)) → remaining_bytes l.left ≡ concat (chunk_list_texts (remaining_items l.other-iterator));
}
