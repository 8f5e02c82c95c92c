-- Laws of a shard's calls: each is a call of the machine, and changes the caches as the call says.
use Rattle.std.proofs.Common.{◌≡◌, ℕ, List, [], length, true, Option, None, unwrap_or, Result, Ok, ap}
use Rattle.sdb_oplog.specs.Decide.{PlainReply}
use Rattle.sdb_oplog.specs.Keys.{PlainKey}
use Rattle.sdb_oplog.specs.Plain.{PlainEntry, PlainSubmission}
use Rattle.sdb_oplog.specs.declared.codes.Code.{Code}
use Rattle.sdb_subscribe.specs.Queue.{queue_at, is_open_by}
use Rattle.sdb_subscribe.specs.Ring.{remove_ringed_queue_by}
use Rattle.sdb_desk.specs.Machine.{PlainAttempt, PlainOutcome, PlainFetchResult, PlainSubscribeResult, fetch_result, fetch_at_moment, snapshot_at, version_at_moment, read_has_document, read_has_version, ReadOrOutOfMemory, SubscribesOrOutOfMemory}
use Rattle.sdb_desk.specs.ShardState.{ShardState, with_cache, with_open_queues, plain_queues, machine_of_state}
use Rattle.sdb_desk.specs.StateChanges.{StateAfterCommit, StateAfterDecision, StateAfterRead, StateAfterSubscribe, StateAfterTake}
use Rattle.sdb_desk.specs.laws.StateLaws.{machine_unchanged, machine_with_cache, machine_of_cache_change, queues_of_subscribe, take_step, queues_of_close}
use Rattle.sdb_submit.specs.Calls as call
use Rattle.sdb_submit.specs.Calls.{MachineStep, CachesAfterCall, PlainCall, CallAnswer}

-- a call under a number, as one of the machine and of the caches
pub record IsCallOfState (by : ℕ) (old : ShardState) (k : PlainKey) (c : PlainCall) (a : CallAnswer c) (new : ShardState) : Type 0 where
  pub step : MachineStep by (machine_of_state old) k c a (machine_of_state new)
  pub caches : CachesAfterCall k old.logs c a old.caches new.caches

module _ (by : ℕ) (k : PlainKey) (old new : ShardState) where
  pub commit_call : (a : PlainAttempt) (now : ℕ) (o : PlainOutcome) → StateAfterCommit k a now o old new → IsCallOfState by old k (call.commit a now) o new
  commit_call a now o h = record { step = (h.commits, h.others.queues_unchanged); caches = h.others.caches_unchanged }

  pub commit_now_call : (s : PlainSubmission) (now : ℕ) (r : PlainReply) → StateAfterDecision k s now r old new → IsCallOfState by old k (call.commit_now s now) r new
  commit_now_call s now r h = record { step = (h.decides, h.others.queues_unchanged); caches = h.others.caches_unchanged }

  pub fetch_call : (r : Result PlainFetchResult Code) → ReadOrOutOfMemory read_has_document r (Ok (fetch_result (old.logs k))) → new ≡ old → IsCallOfState by old k call.fetch r new
  fetch_call r h e = record { step = (h, machine_unchanged old new e); caches = ap (λ s. s.caches) e }

  pub snapshot_call : (v : Option ℕ) (r : Result PlainFetchResult Code) → ReadOrOutOfMemory read_has_version r (snapshot_at (old.logs k) v)
      → StateAfterRead k (unwrap_or v (length (old.logs k))) r old new → IsCallOfState by old k (call.snapshot v) r new
  snapshot_call v r h e = record { step = (h, machine_of_cache_change k old new e.1); caches = (e.0, ap (λ s. s.caches) e.1) }

  pub snapshot_at_time_call : (t : Option ℕ) (r : Result PlainFetchResult Code) → ReadOrOutOfMemory read_has_version r (Ok (fetch_at_moment (old.logs k) t))
      → StateAfterRead k (version_at_moment (old.logs k) t) r old new → IsCallOfState by old k (call.snapshot_at_time t) r new
  snapshot_at_time_call t r h e = record { step = (h, machine_of_cache_change k old new e.1); caches = (e.0, ap (λ s. s.caches) e.1) }

  pub forget_call : new ≡ with_cache old k [] → IsCallOfState by old k call.forget tt new
  forget_call e = record { step = machine_with_cache k [] old new e; caches = ap (λ s. s.caches) e }

  pub subscribe_call : (v : Option ℕ) (r : Result PlainSubscribeResult Code) → SubscribesOrOutOfMemory (old.logs k) by v (plain_queues old k) r (plain_queues new k)
      → StateAfterSubscribe k by r old new → IsCallOfState by old k (call.subscribe v) r new
  subscribe_call v r h e = let q = queues_of_subscribe k by r old new e in record { step = (h, q.0, q.1); caches = q.2 }

  pub take_call : (n max : ℕ) (r : Option (Option (List PlainEntry))) → StateAfterTake k by n max r old new → IsCallOfState by old k (call.take_next n max) r new
  take_call n max r h = let t = take_step k by n max r old new h in record { step = (t.takes, t.others_unchanged, t.logs_unchanged); caches = t.caches_unchanged }

  pub unsubscribe_call : (n : ℕ) → new ≡ with_open_queues old k (remove_ringed_queue_by by n (old.queues k).queues)
      → (is_open_by by n (plain_queues old k).queues ≡ true → queue_at n (plain_queues new k).queues ≡ None) → IsCallOfState by old k (call.unsubscribe n) tt new
  unsubscribe_call n e removed = let q = queues_of_close k by n old new e in record { step = (q.queues, removed, q.logs_unchanged); caches = q.caches_unchanged }
