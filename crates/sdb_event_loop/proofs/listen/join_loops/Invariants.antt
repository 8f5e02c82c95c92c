use Rattle.sdb_backend.specs.PassModel.{IsPassOfBackend}
use Rattle.sdb_growlock.specs.LockRule.{ForEach}
use Rattle.sdb_event_loop.proofs.listen.join_loops.Given as goal

abbrev pub invariant-loop-used : goal.invariant-loop-used
invariant-loop-used g l = ForEach (λ p. IsPassOfBackend p l.context.state.value.backend) l.passes.items
