-- Laws of a shard's state: each change of the state is one of the machine and of the caches.
use Rattle.std.proofs.Common.{◌≡◌, ℕ, List, [], Bool, true, false, cond, Option, Some, None, Result, Ok, Err, refl, ap, ◌∙◌}
use Rattle.sdb_oplog.specs.Keys.{PlainKey, keys_equal}
use Rattle.sdb_oplog.specs.Plain.{PlainEntry}
use Rattle.sdb_oplog.specs.declared.codes.Code.{Code}
use Rattle.sdb_snapcache.specs.CacheModel.{Snapshot}
use Rattle.sdb_subscribe.specs.Queue.{PlainQueue, PlainQueues, queues_after_take_by, remove_queue_by, is_open_by}
use Rattle.sdb_subscribe.specs.Ring.{RingedQueue, RingedQueues, queues_without_rings, without_rings, ringed_queues_after_take_by, remove_ringed_queue_by}
use Rattle.sdb_subscribe.proofs.QueueMapLemmas.{removed_bare}
use Rattle.sdb_subscribe.proofs.TakeLemmas.{bare_taken}
use Rattle.sdb_desk.specs.Machine.{PlainSubscribeResult, IsUnchanged, TakesOrOutOfMemory, with_queues, close_queue}
use Rattle.sdb_desk.specs.ShardState.{ShardState, with_cache, with_ringed_queues, with_open_queues, plain_queues, machine_of_state}
use Rattle.sdb_desk.specs.StateChanges.{StateAfterSubscribe, StateAfterTake}
use Rattle.sdb_desk.specs.laws.MapLaws.{updated_at_unchanged, updated_of_write_at, value_of_updated}

-- ---- a change of caches alone

pub machine_unchanged : (old new : ShardState) → new ≡ old → IsUnchanged (machine_of_state old) (machine_of_state new)
machine_unchanged old new e = (ap (λ s. s.logs) e, ap plain_queues e)

pub machine_with_cache : (k : PlainKey) (cache : List Snapshot) (old new : ShardState) → new ≡ with_cache old k cache
    → IsUnchanged (machine_of_state old) (machine_of_state new)
machine_with_cache k cache old new e = (ap (λ s. s.logs) e, ap plain_queues e)

pub machine_of_cache_change : (k : PlainKey) (old new : ShardState) → new ≡ with_cache old k (new.caches k)
    → IsUnchanged (machine_of_state old) (machine_of_state new)
machine_of_cache_change k old new e = machine_with_cache k (new.caches k) old new e

-- ---- a change of one key's queues alone

plain_or : (b : Bool) (x y : RingedQueues) → without_rings (cond b x y) ≡ cond b (without_rings x) (without_rings y)
plain_or true x y = refl
plain_or false x y = refl

-- a state with other queues of a key
pub record QueuesChange (k : PlainKey) (q : PlainQueues) (old new : ShardState) : Type 0 where
  pub logs_unchanged : new.logs ≡ old.logs
  pub caches_unchanged : new.caches ≡ old.caches
  pub queues : plain_queues new ≡ with_queues (plain_queues old) k q
  pub others_unchanged : plain_queues new ≡ with_queues (plain_queues old) k (plain_queues new k)

pub queues_change : (k : PlainKey) (q : RingedQueues) (old new : ShardState) → new ≡ with_ringed_queues old k q → QueuesChange k (without_rings q) old new
queues_change k q old new e =
    let queues : plain_queues new ≡ with_queues (plain_queues old) k (without_rings q) =
    ap plain_queues e ∙ (λ i p. plain_or (keys_equal k p) q (old.queues p) i) in
    record {
      logs_unchanged = ap (λ s. s.logs) e;
      caches_unchanged = ap (λ s. s.caches) e;
      queues = queues;
      others_unchanged = updated_of_write_at (plain_queues old) (plain_queues new) k (without_rings q) queues;
    }

-- the machine's queues after a subscribe; its contract states the new queues of the key
pub queues_of_subscribe : (k : PlainKey) (by : ℕ) (r : Result PlainSubscribeResult Code) (old new : ShardState) → StateAfterSubscribe k by r old new
    → (plain_queues new ≡ with_queues (plain_queues old) k (plain_queues new k)) × (new.logs ≡ old.logs) × (new.caches ≡ old.caches)
queues_of_subscribe k by (Ok s) old new h = let c = queues_change k _ old new h in (c.others_unchanged, c.logs_unchanged, c.caches_unchanged)
queues_of_subscribe k by (Err code) old new h =
    (updated_at_unchanged (plain_queues old) (plain_queues new) k (ap plain_queues h), ap (λ s. s.logs) h, ap (λ s. s.caches) h)

take_or : (b : Bool) (log : List PlainEntry) (n max : ℕ) (qs taken : List (ℕ × RingedQueue)) (rest : List (ℕ × PlainQueue)) → queues_without_rings taken ≡ rest
    → queues_without_rings (cond b taken qs) ≡ cond b rest (queues_without_rings qs)
take_or true log n max qs taken rest e = e
take_or false log n max qs taken rest e = refl

plain_taken : (log : List PlainEntry) (by n max : ℕ) (qs : List (ℕ × RingedQueue))
    → queues_without_rings (ringed_queues_after_take_by log by n max qs) ≡ queues_after_take_by log by n max (queues_without_rings qs)
plain_taken log by n max qs = take_or (is_open_by by n (queues_without_rings qs)) log n max qs _ _ (bare_taken log n max qs)

plain_removed : (by n : ℕ) (qs : List (ℕ × RingedQueue)) → queues_without_rings (remove_ringed_queue_by by n qs) ≡ remove_queue_by by n (queues_without_rings qs)
plain_removed by n qs = take_or (is_open_by by n (queues_without_rings qs)) [] n n qs _ _ (removed_bare n qs)

-- the machine's take
pub record TakeStep (k : PlainKey) (by n max : ℕ) (r : Option (Option (List PlainEntry))) (old new : ShardState) : Type 0 where
  pub takes : TakesOrOutOfMemory (old.logs k) by n max (plain_queues old k) r (plain_queues new k)
  pub others_unchanged : plain_queues new ≡ with_queues (plain_queues old) k (plain_queues new k)
  pub logs_unchanged : new.logs ≡ old.logs
  pub caches_unchanged : new.caches ≡ old.caches

pub take_step : (k : PlainKey) (by n max : ℕ) (r : Option (Option (List PlainEntry))) (old new : ShardState) → StateAfterTake k by n max r old new
    → TakeStep k by n max r old new
take_step k by n max None old new h = record {
  takes = (ap (λ s. plain_queues s k) h.1, h.0);
  others_unchanged = updated_at_unchanged (plain_queues old) (plain_queues new) k (ap plain_queues h.1);
  logs_unchanged = ap (λ s. s.logs) h.1;
  caches_unchanged = ap (λ s. s.caches) h.1;
}
take_step k by n max (Some r) old new h =
    let c = queues_change k _ old new h.1 in
    let q = old.queues k in
    record {
      takes = (
        h.0,
        value_of_updated (plain_queues old) (plain_queues new) k _ c.queues ∙ (λ i. record { next = q.next; queues = plain_taken (old.logs k) by n max q.queues i }),
      );
      others_unchanged = c.others_unchanged;
      logs_unchanged = c.logs_unchanged;
      caches_unchanged = c.caches_unchanged;
    }

-- the machine's queues after one of them is closed
pub queues_of_close : (k : PlainKey) (by n : ℕ) (old new : ShardState) → new ≡ with_open_queues old k (remove_ringed_queue_by by n (old.queues k).queues)
    → QueuesChange k (close_queue by n (plain_queues old k)) old new
queues_of_close k by n old new h =
    let q = old.queues k in
    let c = queues_change k _ old new h in
    record {
      logs_unchanged = c.logs_unchanged;
      caches_unchanged = c.caches_unchanged;
      queues = c.queues ∙ ap (with_queues (plain_queues old) k) (λ i. record { next = q.next; queues = plain_removed by n q.queues i });
      others_unchanged = c.others_unchanged;
    }
