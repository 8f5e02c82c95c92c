use Rattle.std.proofs.Common.{sym, subst}
use Rattle.sdb_connection.specs.PassLocks.{NamesBackend}
use Rattle.sdb_connection.proofs.loop_context.LoopContext.new.Goals as goal

pub invariant_of-result : goal.invariant_of-result
invariant_of-result g c =
    record { names_backend = subst (λ s. NamesBackend g.B.PassBrand.locks s.backend) (sym c.in_ok-state.ensures) c.requires }
