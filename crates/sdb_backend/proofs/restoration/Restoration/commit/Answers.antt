use Rattle.std.proofs.Common.{◌≡◌, ℕ, ◌<◌, length, slice_get, slice_index_or, slice_set, Some, refl, sym, ap, subst, ◌∙◌, arith}
use Rattle.sdb_oplog.specs.Keys.{PlainKey, plain_key, shard_of}
use Rattle.sdb_desk.specs.Machine.{DecidesOrOutOfMemory}
use Rattle.sdb_desk.specs.ShardView.{state_of, machine_of}
use Rattle.sdb_desk.specs.ReplyView.{plain_reply}
use Rattle.sdb_submit.specs.laws.ShardLaws.{commit_now_call}
use Rattle.sdb_backend.specs.AuditModel.{logs_of_shards}
use Rattle.sdb_backend.specs.HistoryOrder.{IsExtension, share_of}
use Rattle.sdb_backend.specs.declared.shard_value.Held.{Held}
use Rattle.sdb_backend.proofs.HistoryGrowth.{MachineGrows, call_grown}
use Rattle.sdb_backend.proofs.ReplacedItem.{replaced_item, item_here, item_elsewhere}
use Rattle.sdb_backend.proofs.RestoredLogs.{logs_decided, logs_extended, same_share}
use Rattle.sdb_backend.proofs.restoration.Restoration.commit.Goals as goal

abbrev After : Type 0
After = goal.After-record_reply

-- the shard of the key, before and after the decision
abbrev before : After → Held
before c = c.index_mut-held.result.now

abbrev after : After → Held
after c = record { shard = c.commit_now-reply.new.self; unsaved = (before c).unsaved }

below : (c : After) → shard_of (plain_key c.args.key.now) < length c.args.self.now.shards.items
below c = let lt = c.shard.ensures.below in let e = c.shard.ensures.shard in let eight = c.args.self.now.has_every_shard in omega (arith, lt, e, eight)

is_before : (c : After) → before c ≡ slice_index_or c.args.self.now.shards.items (shard_of (plain_key c.args.key.now)) (before c)
is_before c = c.index_mut-held.ensures.value ∙ ap (λ (j : ℕ). slice_index_or c.args.self.now.shards.items j (before c)) c.shard.ensures.shard

grows : (c : After) → MachineGrows c.args.submission.now.by (machine_of (before c).shard) (machine_of (after c).shard)
grows c =
    let by = c.args.submission.now.by in
    let r = plain_reply c.commit_now-reply.result in
    call_grown by _ _ _ _ _ refl
    (commit_now_call by (plain_key c.args.key.now) (state_of (before c).shard) (state_of (after c).shard) c.args.submission.now c.args.now r c.commit_now-reply.ensures)

pub returns-clause-decides : goal.returns-clause-decides
returns-clause-decides c =
    let shards = c.args.self.now.shards.items in
    let k = plain_key c.args.key.now in
    let t = after c in
    record {
      before = before c;
      after = t;
      was = replaced_item shards (shard_of k) (before c) t (below c) (is_before c);
      is = subst (λ (j : ℕ). slice_get (slice_set shards j t) (shard_of k) ≡ Some t) (sym c.shard.ensures.shard) (item_here shards (shard_of k) (before c) t (below c) (is_before c));
      decides = c.commit_now-reply.ensures;
      list_unchanged = refl;
      others_unchanged = λ i ne. subst (λ (j : ℕ). slice_get (slice_set shards j t) i ≡ slice_get shards i) (sym c.shard.ensures.shard) (item_elsewhere shards (shard_of k) (before c) t (below c) (is_before c) i ne);
    }

pub returns-clause-logs : goal.returns-clause-logs
returns-clause-logs c =
    let shards = c.args.self.now.shards.items in
    let k = plain_key c.args.key.now in
    let s = c.args.submission.now in
    let r = plain_reply c.commit_now-reply.result in
    subst (λ (j : ℕ). DecidesOrOutOfMemory (logs_of_shards shards) k s c.args.now r (logs_of_shards (slice_set shards j (after c)))) (sym c.shard.ensures.shard)
    (logs_decided shards k (before c) (after c) (below c) (is_before c) s c.args.now r c.commit_now-reply.ensures.decides)

pub returns-clause-extended : goal.returns-clause-extended
returns-clause-extended c =
    let shards = c.args.self.now.shards.items in
    subst (λ (j : ℕ). (q : PlainKey) → IsExtension (logs_of_shards (slice_set shards j (after c)) q) (logs_of_shards shards q)) (sym c.shard.ensures.shard)
    (logs_extended shards (plain_key c.args.key.now) (before c) (after c) (below c) (is_before c) (grows c).extends.logs)

pub returns-clause-shares : goal.returns-clause-shares
returns-clause-shares c =
    λ n ne.
    let shards = c.args.self.now.shards.items in
    subst (λ (j : ℕ). (i : ℕ) (h : Held) → slice_get (slice_set shards j (after c)) i ≡ Some h
    → (g : Held) × (slice_get shards i ≡ Some g) × (share_of n (machine_of g.shard) ≡ share_of n (machine_of h.shard))) (sym c.shard.ensures.shard)
    (same_share shards (plain_key c.args.key.now) (before c) (after c) (below c) (is_before c) n ((grows c).others n ne))
