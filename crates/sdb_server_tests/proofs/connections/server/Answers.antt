use Rattle.std.proofs.Common.{sym, subst}
use Rattle.sdb_backend.specs.PassModel.{IsHostOfBackend}
use Rattle.sdb_server_tests.proofs.connections.server.Goals as goal

pub returns : goal.returns
returns g c = λ h is.
    let limited = subst (λ b. IsHostOfBackend h b) (sym c.with_session_limit-limited.ensures) (c.in_ok-state.ensures h is) in
    subst (λ s. IsHostOfBackend h s.backend) (sym c.in_ok-new.ensures.ok) limited
