use Rattle.std.proofs.Common.{None}
use Rattle.sdb_desk.specs.laws.MapLaws.{updated_of_remove}
use Rattle.sdb_steps.proofs.slots.drop_slot.Goals as goal

pub returns : goal.returns
returns c = updated_of_remove None c.args.slots.now.entries c.remove.new.self.entries c.args.key.now c.remove.ensures.entries c.remove.ensures.updates.1
