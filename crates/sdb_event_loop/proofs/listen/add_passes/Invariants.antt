use Rattle.sdb_backend.specs.PassModel.{IsPassOfBackend}
use Rattle.sdb_growlock.specs.LockRule.{ForEach}
use Rattle.sdb_event_loop.proofs.listen.add_passes.Given as goal

abbrev pub invariant-loop-pass : goal.invariant-loop-pass
invariant-loop-pass g l = ForEach (λ p. IsPassOfBackend p l.context.state.value.backend) l.passes.items
