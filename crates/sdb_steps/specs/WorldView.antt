-- The state of a world: the reference machine, the sessions and the snapshot caches.
use Rattle.std.specs.Prelude.{◌≡◌, ℕ, [], length}
use Rattle.sdb_oplog.specs.Keys.{PlainKey}
use Rattle.sdb_desk.specs.ShardState.{CachesByKey}
use Rattle.sdb_desk.specs.ShardView.{caches_of, queues_of}
use Rattle.sdb_steps.specs.Caches.{CachesAfterAct}
use Rattle.sdb_steps.specs.OneStep.{OneStep, empty_machine}
use Rattle.sdb_steps.specs.Picks.{SessionStates, PlainSessionStep, PlainStepAnswer, empty_sessions}
use Rattle.sdb_steps.specs.Runs.{IsStep}
use Rattle.sdb_steps.specs.StateView.{one_step_of_shard, session_states_of, count_queues}
use Rattle.sdb_steps.specs.declared.world.World.{World}

-- the machine, the sessions, the cached snapshots of each document, and the number of its open queues
pub record PlainWorld : Type 0 where
  pub machine : OneStep
  pub sessions : SessionStates
  pub caches : CachesByKey
  pub queue_counts : PlainKey → ℕ

abbrev pub plain_world : World → PlainWorld
plain_world w =
    record {
      machine = one_step_of_shard w.state.shard;
      sessions = session_states_of (queues_of w.state.shard) w.state.sessions.items;
      caches = caches_of w.state.shard;
      queue_counts = λ k. length (queues_of w.state.shard k).queues;
    }

-- no log, no attempt, no queue and no cached snapshot
abbrev pub empty_world : PlainWorld
empty_world = record { machine = empty_machine; sessions = empty_sessions; caches = λ k. []; queue_counts = λ k. 0 }

-- one step of a session is one of the machine and the sessions, only a read at a version and `forget` change a cache, and
-- no queue is open that isn't a session's
pub record IsWorldStep (old : PlainWorld) (s : PlainSessionStep) (answer : PlainStepAnswer) (new : PlainWorld) : Type 0 where
  pub step : IsStep old.machine old.sessions s answer new.machine new.sessions
  pub caches : CachesAfterAct old.machine.logs s.act answer old.caches new.caches
  pub open_queues : (k : PlainKey) → new.queue_counts k ≡ count_queues new.sessions k 0 64

abbrev pub one_step_of_world : World → OneStep
one_step_of_world w = (plain_world w).machine

abbrev pub sessions_of : World → SessionStates
sessions_of w = (plain_world w).sessions

abbrev pub caches_of_world : World → CachesByKey
caches_of_world w = (plain_world w).caches
