use Rattle.std.proofs.Common.{[], ap, ◌∙◌}
use Rattle.sdb_oplog.specs.Keys.{plain_key}
use Rattle.sdb_desk.specs.MapModel.{value_at_key}
use Rattle.sdb_desk.specs.ShardState.{state_of_slots}
use Rattle.sdb_desk.specs.ShardView.{state_of}
use Rattle.sdb_desk.specs.SlotModel.{empty_slot}
use Rattle.sdb_desk.specs.laws.MapLaws.{value_at_lookup_none}
use Rattle.sdb_desk.proofs.StateLemmas.{with_cache_same, cache_of_write}
use Rattle.sdb_desk.proofs.shard.Shard.forget.Goals as goal

pub returns-in-Some : goal.returns-in-Some
returns-in-Some c =
    let new = c.forget.new.self in
    cache_of_write c.args.self.now.slots.entries _ c.args.key.now c.in-Some.slot.now new c.in-Some.ensures.value (c.get_mut.follows.holds new).0 [] c.forget.ensures

pub returns-in_default : goal.returns-in_default
returns-in_default c =
    let none = value_at_lookup_none empty_slot c.args.self.now.slots.entries c.args.key.now c.in_default.ensures.value in
    ap (λ m. state_of_slots (value_at_key empty_slot m.entries)) c.get_mut.follows.holds-at-none
    ∙ with_cache_same (state_of c.args.self.now) (plain_key c.args.key.now) [] (ap (λ t. t.document.cache) none)
