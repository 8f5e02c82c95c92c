use Rattle.sdb_dump.proofs.JournalLemmas.{items_are_next}
use Rattle.sdb_dump.proofs.laws.items_are_next.Goals as goal

pub returns : goal.returns
returns c = items_are_next
