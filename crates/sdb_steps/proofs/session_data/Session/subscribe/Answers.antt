use Rattle.std.proofs.Common.{Some, Ok, option_map, refl, ap, sym, ◌∙◌, subst}
use Rattle.sdb_oplog.specs.Keys.{plain_key}
use Rattle.sdb_value.specs.View.{value_of}
use Rattle.sdb_oplog.specs.Keys.{with_value_at_key}
use Rattle.sdb_desk.specs.ShardState.{plain_queues}
use Rattle.sdb_desk.specs.ShardView.{state_of, logs_of, queues_of}
use Rattle.sdb_desk.specs.laws.StateLaws.{queues_of_subscribe}
use Rattle.sdb_desk.specs.Machine.{PlainSubscribeResult, with_queues}
use Rattle.sdb_steps.specs.Picks.{SessionState, PlainStepAnswer, subscribe}
use Rattle.sdb_steps.specs.Dispatch.{DispatchesAct}
use Rattle.sdb_steps.specs.StateView.{one_step_of_shard, session_state_of, plain_open_attempt, queue_slots_of, queue_slots_in, position_in_queues}
use Rattle.sdb_steps.specs.Slots.{PlainQueueSlots, close_in}
use Rattle.sdb_steps.proofs.QueueStepLemmas.{view_turn, started_code, SubscribeFacts, joined_turn, joined_leaves, subscribe_out_of_memory, subscribe_refused, leaves_all, session_unchanged}
use Rattle.sdb_steps.proofs.CommitLemmas.{same_core}
use Rattle.sdb_steps.proofs.session_data.Session.subscribe.Goals as goal

pub returns-in-Err-clause-dispatches : goal.returns-in-Err-clause-dispatches
returns-in-Err-clause-dispatches c =
    let m = one_step_of_shard c.args.shard.now in
    let x = session_state_of (queues_of c.args.shard.now) c.args.self.now in
    let k = plain_key c.args.key.now in
    let e = sym c.in-Err.ensures in
    subst (λ (z : PlainStepAnswer). DispatchesAct c.args.by m x (subscribe k c.args.version) z m x) (sym c.refused_start.ensures)
    (view_turn c.args.by m m x x k c.args.version c.in-Err.code e (started_code m k c.args.version c.in-Err.code e) refl refl)

pub returns-in-Err-clause-other_queues_unchanged : goal.returns-in-Err-clause-other_queues_unchanged
returns-in-Err-clause-other_queues_unchanged c =
    let q = queues_of c.args.shard.now in
    let s = queue_slots_of c.args.self.now in
    leaves_all c.args.by q q s s c.requires refl refl

pub returns-in_default-reserve_slot-clause-dispatches : goal.returns-in_default-reserve_slot-clause-dispatches
returns-in_default-reserve_slot-clause-dispatches c =
    let q = queues_of c.args.shard.now in
    let m = one_step_of_shard c.args.shard.now in
    subscribe_out_of_memory c.args.by m m (session_state_of q c.args.self.now) _ (plain_key c.args.key.now) c.args.version c.in_default.field-0 (sym c.in_default.ensures) refl (session_unchanged (option_map plain_open_attempt c.args.self.now.attempt) q q _ _ refl c.in_default-reserve_slot.ensures.unchanged)

pub returns-in_default-reserve_slot-clause-other_queues_unchanged : goal.returns-in_default-reserve_slot-clause-other_queues_unchanged
returns-in_default-reserve_slot-clause-other_queues_unchanged c = let q = queues_of c.args.shard.now in leaves_all c.args.by q q (queue_slots_of c.args.self.now) _ c.requires refl c.in_default-reserve_slot.ensures.unchanged

pub returns-in-Ok-subscribe-clause-dispatches : goal.returns-in-Ok-subscribe-clause-dispatches
returns-in-Ok-subscribe-clause-dispatches c =
    let q0 = queues_of c.args.shard.now in
    let q1 = queues_of c.subscribe.new.self in
    let q2 = queues_of c.close_queue.new.shard in
    let l0 = logs_of c.args.shard.now in
    let l2 = logs_of c.close_queue.new.shard in
    let k = plain_key c.args.key.now in
    let s0 = queue_slots_of c.args.self.now in
    let s2 = queue_slots_in c.fill_slot.new.slots.entries in
    let a = option_map plain_open_attempt c.args.self.now.attempt in
    let f = c.in-Ok-subscribe.subscribed in
    let o : PlainSubscribeResult = record { id = f.id; start = f.start; version = f.version; snapshot = option_map value_of f.snapshot } in
    let told = c.in-Ok-subscribe.ensures in
    let frame = queues_of_subscribe k c.args.by (Ok o) (state_of c.args.shard.now) (state_of c.subscribe.new.self) told.state in
    let h : SubscribeFacts c.args.by q0 q1 q2 l0 l2 s0 s2 k c.args.version o a = record {
      given = c.requires;
      opened = told.subscribes;
      stands = told.open;
      others = frame.0;
      slots = c.fill_slot.ensures ∙ ap (λ (g : PlainQueueSlots). with_value_at_key g k (Some f.id)) c.in-Ok.ensures.unchanged;
      closed = c.close_queue.ensures.queues ∙ ap (λ p. with_queues q1 k (close_in c.args.by p (q1 k))) c.in-Ok.ensures.number;
      logs = c.close_queue.ensures.logs_unchanged ∙ frame.1;
    } in
    joined_turn c.args.by q0 q1 q2 l0 l2 s0 s2 k c.args.version o a h

pub returns-in-Ok-subscribe-clause-other_queues_unchanged : goal.returns-in-Ok-subscribe-clause-other_queues_unchanged
returns-in-Ok-subscribe-clause-other_queues_unchanged c =
    let q0 = queues_of c.args.shard.now in
    let q1 = queues_of c.subscribe.new.self in
    let q2 = queues_of c.close_queue.new.shard in
    let l0 = logs_of c.args.shard.now in
    let l2 = logs_of c.close_queue.new.shard in
    let k = plain_key c.args.key.now in
    let s0 = queue_slots_of c.args.self.now in
    let s2 = queue_slots_in c.fill_slot.new.slots.entries in
    let a = option_map plain_open_attempt c.args.self.now.attempt in
    let f = c.in-Ok-subscribe.subscribed in
    let o : PlainSubscribeResult = record { id = f.id; start = f.start; version = f.version; snapshot = option_map value_of f.snapshot } in
    let told = c.in-Ok-subscribe.ensures in
    let frame = queues_of_subscribe k c.args.by (Ok o) (state_of c.args.shard.now) (state_of c.subscribe.new.self) told.state in
    let h : SubscribeFacts c.args.by q0 q1 q2 l0 l2 s0 s2 k c.args.version o a = record {
      given = c.requires;
      opened = told.subscribes;
      stands = told.open;
      others = frame.0;
      slots = c.fill_slot.ensures ∙ ap (λ (g : PlainQueueSlots). with_value_at_key g k (Some f.id)) c.in-Ok.ensures.unchanged;
      closed = c.close_queue.ensures.queues ∙ ap (λ p. with_queues q1 k (close_in c.args.by p (q1 k))) c.in-Ok.ensures.number;
      logs = c.close_queue.ensures.logs_unchanged ∙ frame.1;
    } in
    joined_leaves c.args.by q0 q1 q2 l0 l2 s0 s2 k c.args.version o a h

pub returns-in-Err-subscribe-clause-dispatches : goal.returns-in-Err-subscribe-clause-dispatches
returns-in-Err-subscribe-clause-dispatches c =
    let q0 = queues_of c.args.shard.now in
    let q1 = queues_of c.subscribe.new.self in
    let k = plain_key c.args.key.now in
    let v = c.args.version in
    let told = c.in-Err-subscribe.ensures in
    let m = one_step_of_shard c.args.shard.now in
    let n = one_step_of_shard c.subscribe.new.self in
    let x = session_state_of q0 c.args.self.now in
    let slots = c.drop_empty_slot.ensures ∙ c.in-Ok.ensures.unchanged in
    let a = option_map plain_open_attempt c.args.self.now.attempt in
    let t = queue_slots_in c.drop_empty_slot.new.slots.entries in
    let y : SessionState = record { attempt = a; queues = λ j. position_in_queues (q1 j) (t j) } in
    subst (λ (z : PlainStepAnswer). DispatchesAct c.args.by m x (subscribe k v) z n y) (sym c.refused_start-in-Err-subscribe.ensures)
    (subscribe_refused c.args.by m n (q0 k) (q1 k) x y k v c.in-Err-subscribe.code c.in_default.field-0 (sym c.in_default.ensures) refl told.subscribes (ap (λ s. s.logs) told.state)
    (λ _. (same_core c.args.shard.now c.subscribe.new.self (ap (λ s. s.logs) told.state) (ap plain_queues told.state), session_unchanged a q0 q1 (queue_slots_of c.args.self.now) t (ap plain_queues told.state) slots))).1

pub returns-in-Err-subscribe-clause-other_queues_unchanged : goal.returns-in-Err-subscribe-clause-other_queues_unchanged
returns-in-Err-subscribe-clause-other_queues_unchanged c =
    let q0 = queues_of c.args.shard.now in
    let q1 = queues_of c.subscribe.new.self in
    let k = plain_key c.args.key.now in
    let told = c.in-Err-subscribe.ensures in
    let slots = c.drop_empty_slot.ensures ∙ c.in-Ok.ensures.unchanged in
    leaves_all c.args.by q0 q1 (queue_slots_of c.args.self.now) _ c.requires (ap plain_queues told.state) slots

pub returns-in-Ok-subscribe-clause-logs_unchanged : goal.returns-in-Ok-subscribe-clause-logs_unchanged
returns-in-Ok-subscribe-clause-logs_unchanged c = c.close_queue.ensures.logs_unchanged ∙ ap (λ s. s.logs) c.in-Ok-subscribe.ensures.state

pub returns-in-Ok-subscribe-clause-caches_unchanged : goal.returns-in-Ok-subscribe-clause-caches_unchanged
returns-in-Ok-subscribe-clause-caches_unchanged c = c.close_queue.ensures.caches_unchanged ∙ ap (λ s. s.caches) c.in-Ok-subscribe.ensures.state

pub returns-in-Err-subscribe-clause-logs_unchanged : goal.returns-in-Err-subscribe-clause-logs_unchanged
returns-in-Err-subscribe-clause-logs_unchanged c = ap (λ s. s.logs) c.in-Err-subscribe.ensures.state

pub returns-in-Err-subscribe-clause-caches_unchanged : goal.returns-in-Err-subscribe-clause-caches_unchanged
returns-in-Err-subscribe-clause-caches_unchanged c = ap (λ s. s.caches) c.in-Err-subscribe.ensures.state
