use Rattle.sdb_connection.specs.LoopModel.{IsHostOfLoops}
use Rattle.sdb_connection.proofs.pass_supply.fill_supply.Given as goal

abbrev pub invariant-loop : goal.invariant-loop
invariant-loop g l = IsHostOfLoops l.host l.context.state.value
