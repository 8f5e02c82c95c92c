use Rattle.sdb_dump.proofs.ListingLemmas.{text_is_of_logs}
use Rattle.sdb_dump.proofs.laws.text_is_of_logs.Goals as goal

pub returns : goal.returns
returns c = text_is_of_logs
