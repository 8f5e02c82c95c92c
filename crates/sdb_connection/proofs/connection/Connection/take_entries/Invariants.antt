use Rattle.sdb_connection.specs.PassModel.{KeepsPass}
use Rattle.sdb_connection.proofs.connection.Connection.take_entries.Given as goal

abbrev pub invariant-loop : goal.invariant-loop
invariant-loop g l =
    KeepsPass l.context.state.value.backend l.fn.self.pass.pass l.context.state.value.backend l.self.pass.pass
