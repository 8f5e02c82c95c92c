use Rattle.std.proofs.Common.{not, nat_eq, ap, ◌∙◌}
use Rattle.sdb_desk.specs.Machine.{is_nonempty}
use Rattle.sdb_desk.specs.SlotModel.{document_or_empty}
use Rattle.sdb_desk.proofs.LookLemmas.{is_nonempty_of_length}
use Rattle.sdb_desk.proofs.document_slot.DocumentSlot.has_document.Goals as goal

pub returns : goal.returns
returns c =
    ap (λ n. not (nat_eq n 0)) c.version_of.ensures ∙ is_nonempty_of_length (document_or_empty c.self.inside.document).log ∙ ap (λ t. is_nonempty t.document.log) c.self.view_is
