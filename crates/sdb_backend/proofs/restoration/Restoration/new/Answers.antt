use Rattle.std.proofs.Common.{◌≡◌, ◌+◌, ◌∷◌, [], length, length-append, None, sym, ap, ◌∙◌, subst, arith}
use Rattle.sdb_growlock.specs.LockRule.{ForEach}
use Rattle.sdb_desk.specs.ShardState.{empty_state, machine_of_state}
use Rattle.sdb_desk.specs.ShardView.{state_of}
use Rattle.sdb_backend.specs.HistoryOrder.{share_of}
use Rattle.sdb_backend.specs.UnsavedEntries.{unsaved_of}
use Rattle.sdb_backend.specs.declared.shard_value.Held.{Held}
use Rattle.sdb_backend.proofs.ReplacedItem.{for_each_of_push, item_of_each}
use Rattle.sdb_backend.proofs.RestoredLogs.{logs_of_empty}
use Rattle.sdb_backend.proofs.restoration.Restoration.new.Goals as goal

abbrev IsEmptyHeld : Held → Type 0
IsEmptyHeld h = (state_of h.shard ≡ empty_state) × (unsaved_of h ≡ None)

pub loop-shard-preserved : goal.loop-shard-preserved
loop-shard-preserved c =
    let inv = c.loop-shard.invariant in
    let shards = c.loop-shard.shards.items in
    let h = c.new.result in
    let are = c.push_reserved.ensures.items in
    record {
      length = ap length are ∙ length-append shards (h ∷ []) ∙ ap (λ n. n + 1) inv.length;
      room = let r = inv.room in let e = c.push_reserved.ensures.capacity in omega (arith, r, e);
      empty = subst (ForEach IsEmptyHeld) (sym are) (for_each_of_push IsEmptyHeld shards h inv.empty (c.new.ensures.state, c.new.ensures.unlisted));
    }

pub returns-clause-empty : goal.returns-clause-empty
returns-clause-empty c = λ i h is. item_of_each IsEmptyHeld c.loop-shard.shards.items c.loop-shard.invariant.empty i h is

pub returns-clause-logs : goal.returns-clause-logs
returns-clause-logs c = λ k. logs_of_empty c.loop-shard.shards.items (λ i h is. (item_of_each IsEmptyHeld c.loop-shard.shards.items c.loop-shard.invariant.empty i h is).0) k

pub returns-clause-shares : goal.returns-clause-shares
returns-clause-shares c = λ n i h is. ap (λ s. share_of n (machine_of_state s)) (item_of_each IsEmptyHeld c.loop-shard.shards.items c.loop-shard.invariant.empty i h is).0
