use Rattle.sdb_connection.specs.LoopModel.{IsHostOfLoops}
use Rattle.sdb_connection.proofs.pass_supply.supply_passes.Given as goal

abbrev pub invariant-loop : goal.invariant-loop
invariant-loop g l =
    (goal.iterator-loop g).can_next l.iterator' × (goal.iterator-loop g).is_finite l.iterator' × IsHostOfLoops l.host l.context.state.value
