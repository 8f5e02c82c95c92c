use Rattle.std.proofs.Common.{sym, subst}
use Rattle.sdb_backend.specs.PassModel.{IsHostOfBackend}
use Rattle.sdb_server_tests.proofs.loops.loop_server.Goals as goal

pub returns : goal.returns
returns g c = λ h is.
    let logged = subst (λ b. IsHostOfBackend h b) (sym c.with_log-state.ensures) (c.in_ok-new.ensures h is) in
    subst (λ s. IsHostOfBackend h s.backend) (sym c.in_ok-new-2.ensures.ok) logged
