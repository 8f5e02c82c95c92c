use Rattle.sdb_dump.proofs.AcceptLemmas.{dumps_accepted, accepted_dumps}
use Rattle.sdb_dump.proofs.laws.dump_is_accepted.Goals as goal

pub returns-clause-accepted : goal.returns-clause-accepted
returns-clause-accepted c = dumps_accepted

pub returns-clause-only : goal.returns-clause-only
returns-clause-only c = accepted_dumps
