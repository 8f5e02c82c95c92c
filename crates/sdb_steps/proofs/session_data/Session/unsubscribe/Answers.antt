use Rattle.std.proofs.Common.{◌≡◌, Some, option_map, ap, sym, ◌∙◌}
use Rattle.sdb_oplog.specs.Keys.{plain_key}
use Rattle.sdb_desk.specs.laws.MapLaws.{value_of_updated}
use Rattle.sdb_desk.specs.laws.StateLaws.{queues_of_close}
use Rattle.sdb_desk.specs.ShardView.{state_of, logs_of, queues_of}
use Rattle.sdb_desk.specs.Machine.{close_queue}
use Rattle.sdb_steps.specs.StateView.{plain_open_attempt, queue_slots_of, queue_slots_in}
use Rattle.sdb_steps.proofs.QueueStepLemmas.{TakeFacts, stands_of, closed_turn, closed_leaves}
use Rattle.sdb_steps.proofs.session_data.Session.unsubscribe.Goals as goal

pub returns-clause-dispatches : goal.returns-clause-dispatches
returns-clause-dispatches c =
    let q0 = queues_of c.args.shard.now in
    let q1 = queues_of c.unsubscribe.new.self in
    let l0 = logs_of c.args.shard.now in
    let l1 = logs_of c.unsubscribe.new.self in
    let k = plain_key c.args.key.now in
    let s = queue_slots_of c.args.self.now in
    let t = queue_slots_in c.drop_slot.new.slots.entries in
    let n = c.in-Some.id in
    let a = option_map plain_open_attempt c.args.self.now.attempt in
    let at : s k ≡ Some n = sym c.queue_of.ensures ∙ c.in-Some.is in
    let w = stands_of c.args.by _ (c.requires k n at).1 in
    let told = queues_of_close k c.args.by n (state_of c.args.shard.now) (state_of c.unsubscribe.new.self) c.unsubscribe.ensures.closed in
    let shut = value_of_updated q0 q1 k (close_queue c.args.by n (q0 k)) told.queues in
    let h : TakeFacts c.args.by q0 q1 l0 l1 s t k n w.0 a = record { all = c.requires; at = at; stands = w.1; others = told.others_unchanged; next = ap (λ z. z.next) shut; logs = told.logs_unchanged } in
    closed_turn c.args.by q0 q1 l0 l1 s t k n w.0 a h shut c.drop_slot.ensures

pub returns-clause-other_queues_unchanged : goal.returns-clause-other_queues_unchanged
returns-clause-other_queues_unchanged c =
    let q0 = queues_of c.args.shard.now in
    let q1 = queues_of c.unsubscribe.new.self in
    let l0 = logs_of c.args.shard.now in
    let l1 = logs_of c.unsubscribe.new.self in
    let k = plain_key c.args.key.now in
    let s = queue_slots_of c.args.self.now in
    let t = queue_slots_in c.drop_slot.new.slots.entries in
    let n = c.in-Some.id in
    let a = option_map plain_open_attempt c.args.self.now.attempt in
    let at : s k ≡ Some n = sym c.queue_of.ensures ∙ c.in-Some.is in
    let w = stands_of c.args.by _ (c.requires k n at).1 in
    let told = queues_of_close k c.args.by n (state_of c.args.shard.now) (state_of c.unsubscribe.new.self) c.unsubscribe.ensures.closed in
    let shut = value_of_updated q0 q1 k (close_queue c.args.by n (q0 k)) told.queues in
    let h : TakeFacts c.args.by q0 q1 l0 l1 s t k n w.0 a = record { all = c.requires; at = at; stands = w.1; others = told.others_unchanged; next = ap (λ z. z.next) shut; logs = told.logs_unchanged } in
    closed_leaves c.args.by q0 q1 l0 l1 s t k n w.0 a h shut c.drop_slot.ensures

pub returns-clause-logs_unchanged : goal.returns-clause-logs_unchanged
returns-clause-logs_unchanged c = ap (λ s. s.logs) c.unsubscribe.ensures.closed

pub returns-clause-caches_unchanged : goal.returns-clause-caches_unchanged
returns-clause-caches_unchanged c = ap (λ s. s.caches) c.unsubscribe.ensures.closed
