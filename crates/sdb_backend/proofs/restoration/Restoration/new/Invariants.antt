use Rattle.std.proofs.Common.{◌≡◌, ◌≤◌, length, None, vec_capacity}
use Rattle.sdb_growlock.specs.LockRule.{ForEach}
use Rattle.sdb_desk.specs.ShardState.{empty_state}
use Rattle.sdb_desk.specs.ShardView.{state_of}
use Rattle.sdb_backend.specs.UnsavedEntries.{unsaved_of}
use Rattle.sdb_backend.proofs.restoration.Restoration.new.Given as goal

abbrev pub invariant-loop-shard : goal.invariant-loop-shard
invariant-loop-shard l =
    record {
      length : length l.shards.items ≡ l._shard;
      room : 8 ≤ vec_capacity l.shards;
      empty : ForEach (λ h. (state_of h.shard ≡ empty_state) × (unsaved_of h ≡ None)) l.shards.items;
    }
