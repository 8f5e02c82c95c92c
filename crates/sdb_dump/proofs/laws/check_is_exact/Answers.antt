use Rattle.sdb_dump.proofs.CheckLemmas.{check_sound, check_complete}
use Rattle.sdb_dump.proofs.laws.check_is_exact.Goals as goal

pub returns : goal.returns
returns c = record { sound = check_sound; complete = check_complete }
