use Rattle.std.proofs.Common.{sym, ap, ◌∙◌}
use Rattle.sdb_oplog.specs.Keys.{plain_key}
use Rattle.sdb_subscribe.specs.Queue.{take_result_by}
use Rattle.sdb_subscribe.specs.Ring.{without_rings, ringed_queues_after_take_by}
use Rattle.sdb_desk.specs.MapModel.{value_at_key}
use Rattle.sdb_desk.specs.ShardState.{state_of_slots}
use Rattle.sdb_desk.specs.ShardView.{state_of}
use Rattle.sdb_desk.specs.SlotModel.{empty_slot}
use Rattle.sdb_desk.specs.laws.MapLaws.{value_at_lookup_none}
use Rattle.sdb_desk.proofs.StateLemmas.{with_open_queues_same, take_of_write}
use Rattle.sdb_desk.proofs.shard.Shard.take.Goals as goal

pub returns-in-Some : goal.returns-in-Some
returns-in-Some c =
    let new = c.take.new.self in
    let e = c.take.ensures in
    take_of_write c.args.self.now.slots.entries _ c.args.key.now c.in-Some.slot.now new c.in-Some.ensures.value (c.get_mut.follows.holds new).0 c.args.by c.args.id c.args.max c.take.result
    e.entries e.ok e.err e.memory

pub returns-in-None : goal.returns-in-None
returns-in-None c =
    let none = value_at_lookup_none empty_slot c.args.self.now.slots.entries c.args.key.now c.in-None.ensures.value in
    let a = c.args in (
      ap (λ t. take_result_by t.document.log a.by a.id a.max (without_rings t.queues).queues) none,
      ap (λ m. state_of_slots (value_at_key empty_slot m.entries)) c.get_mut.follows.holds-at-none
          ∙ with_open_queues_same (state_of a.self.now) (plain_key a.key.now) _
          (ap (λ t. ringed_queues_after_take_by t.document.log a.by a.id a.max t.queues.queues) (sym none) ∙ ap (λ t. t.queues.queues) none),
    )
