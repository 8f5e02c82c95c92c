use Rattle.json.specs.Print.{escape_byte}
use Rattle.sdb_dump.proofs.journal_line.number_text.Goals as goal

pub returns : goal.returns
unfolding escape_byte
returns c = c.format.ensures.ok
