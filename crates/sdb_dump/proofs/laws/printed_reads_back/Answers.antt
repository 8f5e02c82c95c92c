use Rattle.sdb_dump.proofs.ReadBackData.{read_compact}
use Rattle.sdb_dump.proofs.CompactText.{utf8_compact}
use Rattle.sdb_dump.proofs.laws.printed_reads_back.Goals as goal

pub returns-clause-read : goal.returns-clause-read
returns-clause-read c = read_compact

pub returns-clause-text : goal.returns-clause-text
returns-clause-text c = utf8_compact
