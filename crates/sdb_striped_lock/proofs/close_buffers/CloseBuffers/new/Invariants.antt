use Rattle.std.proofs.Common.{◌≡◌, ◌<◌, ◌≤◌, length, vec_len, vec_capacity}
use Rattle.sdb_striped_lock.proofs.IndexLemmas.{AtEachItem}
use Rattle.sdb_striped_lock.proofs.close_buffers.CloseBuffers.new.Given as goal

abbrev pub invariant-loop-index : goal.invariant-loop-index
invariant-loop-index g l =
    record {
      long : length l.columns.items ≡ l._index;
      room : 8 ≤ vec_capacity l.columns;
      each : AtEachItem (λ i c. (vec_len c ≡ 0) × (l.callers < vec_capacity c)) l.columns.items 0 l._index;
    }
