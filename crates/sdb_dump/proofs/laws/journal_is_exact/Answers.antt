use Rattle.sdb_dump.proofs.JournalLemmas.{journal_is_exact}
use Rattle.sdb_dump.proofs.laws.journal_is_exact.Goals as goal

pub returns : goal.returns
returns c = journal_is_exact
