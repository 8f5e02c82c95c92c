use Rattle.sdb_desk.specs.SlotModel.{document_or_empty}
use Rattle.sdb_desk.proofs.document_slot.DocumentSlot.close.Goals as goal

pub invariant_of-self : goal.invariant_of-self
invariant_of-self c = c.close.ensures.rings_of_log (document_or_empty c.self.inside.document).log c.self.invariant
