use Rattle.sdb_dump.proofs.CheckStageLemmas.{staged_is}
use Rattle.sdb_dump.proofs.laws.stages_are_check.Goals as goal

pub returns : goal.returns
returns c = staged_is
