use Rattle.std.proofs.Common.{◌≡◌, ℕ, length, None}
use Rattle.sdb_oplog.specs.Keys.{PlainKey, Logs}
use Rattle.sdb_desk.specs.Machine.{QueuesByKey}
use Rattle.sdb_steps.specs.Picks.{empty_session}
use Rattle.sdb_steps.specs.LookInvariant.{AllHaveLookAt}
use Rattle.sdb_steps.specs.StateView.{session_states_of, queue_slots_at, count_slots}
use Rattle.sdb_steps.proofs.world_state.WorldState.new.Given as goal

abbrev pub invariant-loop : goal.invariant-loop
invariant-loop l = record {
  count : length l.sessions.items ≡ l.counter;
  unused : (q : QueuesByKey) (n : ℕ) → session_states_of q l.sessions.items n ≡ empty_session;
  looked : (logs : Logs) → AllHaveLookAt logs l.sessions.items;
  none_open : (k : PlainKey) → count_slots l.sessions.items k ≡ 0;
  empty : (n : ℕ) (k : PlainKey) → queue_slots_at l.sessions.items n k ≡ None;
}
