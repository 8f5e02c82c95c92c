use Rattle.sdb_dump.proofs.LineSplitLemmas.{text_accepted, text_only}
use Rattle.sdb_dump.proofs.laws.text_is_exact.Goals as goal

pub returns : goal.returns
returns c = record { accepted = text_accepted; only = text_only }
