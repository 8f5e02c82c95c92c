use Rattle.sdb_dump.proofs.JournalLemmas.{journal_logs_are_made}
use Rattle.sdb_dump.proofs.laws.journal_logs_are_made.Goals as goal

pub returns : goal.returns
returns c = journal_logs_are_made
