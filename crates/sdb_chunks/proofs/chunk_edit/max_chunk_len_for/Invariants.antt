use Rattle.std.proofs.Common.{◌<◌, ◌≤◌, ◌-◌}
use Rattle.sdb_chunks.proofs.chunk_edit.max_chunk_len_for.Given as goal

abbrev pub invariant-loop-bound : goal.invariant-loop-bound
invariant-loop-bound l = record {
  some : 0 < l.bound;
  high : l.bound ≤ 512;
}

abbrev pub decreases-loop-bound : goal.decreases-loop-bound
decreases-loop-bound l = 512 - l.bound
