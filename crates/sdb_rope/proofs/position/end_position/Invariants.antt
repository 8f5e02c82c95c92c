use Rattle.std.proofs.Common.{◌≡◌, ◌-◌, ◌≤◌, ◌<◌, ℕ, length, drop, nat_eq}
use Rattle.std.specs.List.{starts_with}
use Rattle.sdb_rope.specs.RopeChunk.{chunk_list_texts}
use Rattle.sdb_rope.specs.Position.{chunk_text, bytes_after, IsEndPosition}
use Rattle.sdb_rope.proofs.position.end_position.Given as goal

abbrev pub invariant-loop-at : goal.invariant-loop-at
invariant-loop-at l = record {
  within : l.at < length l.chunks → l.start ≤ length (chunk_text (chunk_list_texts l.chunks) l.at);
  known : l.done ≤ length l.text;
  more : length l.chunks ≤ l.at → l.done < length l.text;
  ends : (m j : ℕ) → IsEndPosition (chunk_list_texts l.chunks) l.at l.start (drop l.done l.text) m j → IsEndPosition (chunk_list_texts l.chunks) l.fn.first l.fn.from l.text m j;
  same : starts_with nat_eq (bytes_after (chunk_list_texts l.chunks) l.at l.start) (drop l.done l.text) ≡ starts_with nat_eq (bytes_after (chunk_list_texts l.chunks) l.fn.first l.fn.from) l.text;
}

abbrev pub decreases-loop-at : goal.decreases-loop-at
decreases-loop-at l = length l.chunks - l.at
