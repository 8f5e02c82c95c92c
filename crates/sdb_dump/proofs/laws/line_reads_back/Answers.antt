use Rattle.sdb_dump.proofs.ReadBackEntries.{line_reads_back}
use Rattle.sdb_dump.proofs.laws.line_reads_back.Goals as goal

pub returns : goal.returns
returns c = line_reads_back
