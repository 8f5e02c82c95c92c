use Rattle.std.proofs.Common.{sym, ap, ◌∙◌}
use Rattle.sdb_oplog.specs.Keys.{plain_key}
use Rattle.sdb_subscribe.specs.Ring.{remove_ringed_queue_by}
use Rattle.sdb_desk.specs.MapModel.{value_at_key}
use Rattle.sdb_desk.specs.ShardState.{state_of_slots}
use Rattle.sdb_desk.specs.ShardView.{state_of}
use Rattle.sdb_desk.specs.SlotModel.{empty_slot}
use Rattle.sdb_desk.specs.laws.MapLaws.{value_at_lookup_none}
use Rattle.sdb_desk.proofs.StateLemmas.{with_open_queues_same, open_queues_of_write}
use Rattle.sdb_desk.proofs.shard.Shard.unsubscribe.Goals as goal

pub returns-in-Some-clause-closed : goal.returns-in-Some-clause-closed
returns-in-Some-clause-closed c =
    let new = c.close.new.self in
    open_queues_of_write c.args.self.now.slots.entries _ c.args.key.now c.in-Some.slot.now new c.in-Some.ensures.value (c.get_mut.follows.holds new).0
    (λ t. remove_ringed_queue_by c.args.by c.args.id t.queues.queues) c.close.ensures.closed

pub returns-in_default-clause-closed : goal.returns-in_default-clause-closed
returns-in_default-clause-closed c =
    let none = value_at_lookup_none empty_slot c.args.self.now.slots.entries c.args.key.now c.in_default.ensures.value in
    ap (λ m. state_of_slots (value_at_key empty_slot m.entries)) c.get_mut.follows.holds-at-none
    ∙ with_open_queues_same (state_of c.args.self.now) (plain_key c.args.key.now) _
    (ap (λ t. remove_ringed_queue_by c.args.by c.args.id t.queues.queues) (sym none) ∙ ap (λ t. t.queues.queues) none)
