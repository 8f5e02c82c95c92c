use Rattle.sdb_dump.proofs.DocumentLimits.{documents_bounded}
use Rattle.sdb_dump.proofs.laws.documents_are_bounded.Goals as goal

pub returns : goal.returns
returns c = documents_bounded
