use Rattle.std.proofs.Common.{None, Some}
use Rattle.sdb_desk.specs.laws.MapLaws.{updated_of_write}
use Rattle.sdb_steps.proofs.slots.fill_slot.Goals as goal

pub returns : goal.returns
returns c = updated_of_write None c.args.slots.now.entries _ c.args.key.now c.in-Some.slot.now (Some c.args.id) c.in-Some.ensures.value (c.get_mut.follows.holds (Some c.args.id)).0
