use Rattle.std.proofs.Common.{None, sym, ◌∙◌}
use Rattle.sdb_oplog.specs.Keys.{plain_key}
use Rattle.sdb_desk.specs.laws.MapLaws.{updated_at_same}
use Rattle.sdb_steps.specs.StateView.{queue_slots_in}
use Rattle.sdb_steps.proofs.CommitLemmas.{none_of}
use Rattle.sdb_steps.proofs.slots.drop_empty_slot.Goals as goal

pub returns-then-is_none : goal.returns-then-is_none
returns-then-is_none c =
    let f = queue_slots_in c.args.slots.now.entries in
    let k = plain_key c.args.key.now in
    c.drop_slot.ensures ∙ sym (updated_at_same f k None (none_of c.queue_of.result (c.if-is_none.ensures) ∙ c.queue_of.ensures))
