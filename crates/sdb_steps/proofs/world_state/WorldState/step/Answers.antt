use Rattle.std.proofs.Common.{◌≡◌, ℕ, ◌<◌, length, ap, sym, ◌∙◌, subst, arith}
use Rattle.std.proofs.lemmas.List.{length-set}
use Rattle.sdb_desk.specs.ShardView.{logs_of, queues_of}
use Rattle.sdb_steps.specs.Picks as plain
use Rattle.sdb_steps.specs.Dispatch.{DispatchesAct}
use Rattle.sdb_steps.specs.StateView.{one_step_of_shard, session_state_of, session_states_of, queue_slots_of}
use Rattle.sdb_steps.specs.Slots.{PlainQueueSlots, SlotsOpen, OtherQueuesUnchanged}
use Rattle.sdb_steps.specs.View.{plain_session_step, plain_step_answer}
use Rattle.sdb_steps.proofs.LookLemmas.{looked_read, looked_set, grows_dispatched}
use Rattle.sdb_steps.proofs.WorldLemmas.{turn_step, slots_read, session_read, sessions_set, open_set, apart_set, counted_set, count_of_slots}
use Rattle.sdb_steps.proofs.world_state.WorldState.step.Goals as goal

pub dispatch-requires-clause-queues : goal.dispatch-requires-clause-queues
dispatch-requires-clause-queues c =
    let xs = c.args.self.now.sessions.items in
    let i = c.session-number.result.number in
    let q = queues_of c.args.self.now.shard in
    let within : i < length xs = omega (arith, c.session-number.result.small, c.args.self.now.all) in
    subst (λ (n : ℕ). SlotsOpen n q (queue_slots_of c.index_mut.result.now)) c.session-number.ensures
    (subst (λ (s : PlainQueueSlots). SlotsOpen i q s) (sym (slots_read xs i _ within c.index_mut.ensures.value)) (c.args.self.now.slots_open i))

pub dispatch-requires-clause-has_look : goal.dispatch-requires-clause-has_look
dispatch-requires-clause-has_look c =
    let xs = c.args.self.now.sessions.items in
    let i = c.session-number.result.number in
    let within : i < length xs = omega (arith, c.session-number.result.small, c.args.self.now.all) in
    looked_read (logs_of c.args.self.now.shard) xs i c.index_mut.result.now within c.index_mut.ensures.value c.args.self.now.looked

pub invariant_of-self : goal.invariant_of-self
invariant_of-self c =
    let xs = c.args.self.now.sessions.items in
    let q = queues_of c.args.self.now.shard in
    let r = queues_of c.dispatch.new.shard in
    let i = c.session-number.result.number in
    let y = c.dispatch.new.session in
    let s = plain_session_step c.args.step.now in
    let within : i < length xs = omega (arith, c.session-number.result.small, c.args.self.now.all) in
    let leaves =
    subst (λ (s : PlainQueueSlots). OtherQueuesUnchanged i q s r (queue_slots_of y)) (slots_read xs i _ within c.index_mut.ensures.value)
    (subst (λ (n : ℕ). OtherQueuesUnchanged n q (queue_slots_of c.index_mut.result.now) r (queue_slots_of y)) (sym c.session-number.ensures) c.dispatch.ensures.other_queues_unchanged) in
    record {
      all = length-set xs i y ∙ c.args.self.now.all;
      slots_open = open_set q r xs i y within c.args.self.now.slots_open c.args.self.now.apart leaves;
      apart = apart_set q r xs i y within c.args.self.now.slots_open c.args.self.now.apart leaves;
      counted = counted_set q r xs i y within c.args.self.now.slots_open c.args.self.now.apart leaves c.args.self.now.counted;
      looked = looked_set (logs_of c.args.self.now.shard) (logs_of c.dispatch.new.shard) xs i y (grows_dispatched s.session (one_step_of_shard c.args.self.now.shard) (one_step_of_shard c.dispatch.new.shard) (session_state_of q c.index_mut.result.now) (session_state_of r y) s.act (plain_step_answer c.dispatch.result) c.dispatch.ensures.dispatches) c.args.self.now.looked c.dispatch.ensures.has_look;
    }

pub returns-clause-step : goal.returns-clause-step
returns-clause-step c =
    let xs = c.args.self.now.sessions.items in
    let q = queues_of c.args.self.now.shard in
    let r = queues_of c.dispatch.new.shard in
    let i = c.session-number.result.number in
    let y = c.dispatch.new.session in
    let s = plain_session_step c.args.step.now in
    let m = one_step_of_shard c.args.self.now.shard in
    let n = one_step_of_shard c.dispatch.new.shard in
    let a = plain_step_answer c.dispatch.result in
    let within : i < length xs = omega (arith, c.session-number.result.small, c.args.self.now.all) in
    let leaves =
    subst (λ (t : PlainQueueSlots). OtherQueuesUnchanged i q t r (queue_slots_of y)) (slots_read xs i _ within c.index_mut.ensures.value)
    (subst (λ (n : ℕ). OtherQueuesUnchanged n q (queue_slots_of c.index_mut.result.now) r (queue_slots_of y)) (sym c.session-number.ensures) c.dispatch.ensures.other_queues_unchanged) in
    let is : session_state_of q c.index_mut.result.now ≡ session_states_of q xs s.session = session_read q xs i _ within c.index_mut.ensures.value ∙ ap (session_states_of q xs) c.session-number.ensures in
    let put = sessions_set q r xs i y within c.args.self.now.slots_open c.args.self.now.apart leaves ∙ ap (λ k. plain.with_session (session_states_of q xs) k (session_state_of r y)) c.session-number.ensures in
    turn_step m n (session_states_of q xs) _ s a (session_state_of r y) put (subst (λ (x : plain.SessionState). DispatchesAct s.session m x s.act a n (session_state_of r y)) is c.dispatch.ensures.dispatches)

pub returns-clause-queues : goal.returns-clause-queues
returns-clause-queues c k =
    let xs = c.args.self.now.sessions.items in
    let q = queues_of c.args.self.now.shard in
    let r = queues_of c.dispatch.new.shard in
    let i = c.session-number.result.number in
    let y = c.dispatch.new.session in
    let within : i < length xs = omega (arith, c.session-number.result.small, c.args.self.now.all) in
    let leaves =
    subst (λ (t : PlainQueueSlots). OtherQueuesUnchanged i q t r (queue_slots_of y)) (slots_read xs i _ within c.index_mut.ensures.value)
    (subst (λ (n : ℕ). OtherQueuesUnchanged n q (queue_slots_of c.index_mut.result.now) r (queue_slots_of y)) (sym c.session-number.ensures) c.dispatch.ensures.other_queues_unchanged) in
    let opens = open_set q r xs i y within c.args.self.now.slots_open c.args.self.now.apart leaves in
    counted_set q r xs i y within c.args.self.now.slots_open c.args.self.now.apart leaves c.args.self.now.counted k
    ∙ sym (count_of_slots r _ opens 64 (length-set xs i y ∙ c.args.self.now.all) k)
