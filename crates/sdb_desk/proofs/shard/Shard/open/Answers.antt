use Rattle.std.proofs.Common.{◌≡◌, ap, ◌∙◌}
use Rattle.sdb_oplog.specs.Keys.{plain_key, with_value_at_key}
use Rattle.sdb_subscribe.specs.Queue.{queue_at}
use Rattle.sdb_subscribe.specs.Ring.{open_ringed_queue}
use Rattle.sdb_desk.specs.MapModel.{value_at_key}
use Rattle.sdb_desk.specs.ShardState.{with_ringed_queues}
use Rattle.sdb_desk.specs.ShardView.{slots_of, state_of}
use Rattle.sdb_desk.specs.SlotModel.{empty_slot}
use Rattle.sdb_desk.specs.laws.MapLaws.{value_at_lookup_some, value_at_lookup_none}
use Rattle.sdb_desk.proofs.LookLemmas.{on_ok, on_err}
use Rattle.sdb_desk.proofs.StateLemmas.{unchanged_of_write, queues_of_write, queues_written, plain_queues_at}
use Rattle.sdb_desk.proofs.shard.Shard.open.Goals as goal

pub returns-in-Some-clause-ok : goal.returns-in-Some-clause-ok
returns-in-Some-clause-ok c =
    let es = c.args.self.now.slots.entries in
    let new = c.open.new.self in
    let found = value_at_lookup_some empty_slot es c.args.key.now c.in-Some.slot.now c.in-Some.ensures.value in
    on_ok c.open.result
    (λ e. queues_of_write es _ c.args.key.now c.in-Some.slot.now new c.in-Some.ensures.value (c.get_mut.follows.holds new).0 (ap (λ t. t.document) e)
    ∙ ap (with_ringed_queues (state_of c.args.self.now) (plain_key c.args.key.now)) (ap (λ t. t.queues) e ∙ ap (λ t. open_ringed_queue c.args.by c.args.start t.queues) found)) c.open.ensures.ok

pub returns-in-Some-clause-unchanged_on_err : goal.returns-in-Some-clause-unchanged_on_err
returns-in-Some-clause-unchanged_on_err c =
    let new = c.open.new.self in
    on_err c.open.result (unchanged_of_write c.args.self.now.slots.entries _ c.args.key.now c.in-Some.slot.now new c.in-Some.ensures.value (c.get_mut.follows.holds new).0) c.open.ensures.unchanged_on_err

pub returns-clause-ok : goal.returns-clause-ok
returns-clause-ok c =
    let w = c.open-2.new.self in
    let k = plain_key c.args.key.now in
    let f = slots_of c.args.self.now in
    let g = slots_of c.insert_slot.new.self in
    let e = c.in_ok-id.ensures.ok in
    let found = c.new-slot.ensures ∙ value_at_lookup_none empty_slot c.args.self.now.slots.entries c.args.key.now c.in_default.ensures.value in
    let wrote : g ≡ with_value_at_key f k w = c.in_ok-insert_slot.ensures.ok ∙ ap (λ m. with_value_at_key (value_at_key empty_slot m.entries) k w) c.get_mut.follows.holds-at-none in
    queues_written f g k c.new-slot.result w found wrote (ap (λ t. t.document) e)
    ∙ ap (with_ringed_queues (state_of c.args.self.now) k) (ap (λ t. t.queues) e ∙ ap (λ t. open_ringed_queue c.args.by c.args.start t.queues) found)

pub returns-clause-open : goal.returns-clause-open
returns-clause-open c =
    let w = c.open-2.new.self in
    let k = plain_key c.args.key.now in
    let f = slots_of c.args.self.now in
    let g = slots_of c.insert_slot.new.self in
    let found = c.new-slot.ensures ∙ value_at_lookup_none empty_slot c.args.self.now.slots.entries c.args.key.now c.in_default.ensures.value in
    let wrote : g ≡ with_value_at_key f k w = c.in_ok-insert_slot.ensures.ok ∙ ap (λ m. with_value_at_key (value_at_key empty_slot m.entries) k w) c.get_mut.follows.holds-at-none in
    ap (λ q. queue_at c.in_ok-id.id q.queues) (plain_queues_at f g k c.new-slot.result w found wrote) ∙ c.in_ok-id.ensures.open
