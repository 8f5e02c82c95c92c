use Rattle.std.proofs.Common.{ap, ◌∙◌}
use Rattle.sdb_oplog.specs.Keys.{with_value_at_key}
use Rattle.sdb_desk.specs.MapModel.{value_at_key}
use Rattle.sdb_desk.specs.laws.MapLaws.{updated_of_insert}
use Rattle.sdb_desk.specs.SlotModel.{empty_slot}
use Rattle.sdb_desk.proofs.shard.Shard.insert_slot.Goals as goal

pub returns-clause-ok : goal.returns-clause-ok
returns-clause-ok c =
    let es = c.args.self.now.slots.entries in
    updated_of_insert empty_slot es _ c.in_ok-try_clone.field-0 c.args.slot c.in_ok-insert.ensures.entries ∙ ap (λ k. with_value_at_key (value_at_key empty_slot es) k c.args.slot) c.in_ok-try_clone.ensures
