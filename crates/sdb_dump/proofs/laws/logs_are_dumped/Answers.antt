use Rattle.sdb_dump.proofs.ListingLemmas.{logs_are_dumped}
use Rattle.sdb_dump.proofs.laws.logs_are_dumped.Goals as goal

pub returns : goal.returns
returns c = logs_are_dumped
