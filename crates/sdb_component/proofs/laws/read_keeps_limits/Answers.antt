use Rattle.sdb_component.proofs.LimitLemmas.{read_in_range}
use Rattle.sdb_component.proofs.laws.read_keeps_limits.Goals as goal

pub returns : goal.returns
returns c = read_in_range
