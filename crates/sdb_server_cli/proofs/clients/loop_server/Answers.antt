use Rattle.std.proofs.Common.{sym, subst}
use Rattle.sdb_backend.specs.PassModel.{IsHostOfBackend}
use Rattle.sdb_server_cli.proofs.clients.loop_server.Goals as goal

pub returns : goal.returns
returns g c = λ h is.
    let logged = subst (λ b. IsHostOfBackend h b) (sym c.with_log-logging.ensures) (c.in_ok-state.ensures h is) in
    let proxied = subst (λ b. IsHostOfBackend h b) (sym c.with_proxy-proxied.ensures) logged in
    let limited = subst (λ b. IsHostOfBackend h b) (sym c.with_session_limit-limited.ensures) proxied in
    let bounded = subst (λ b. IsHostOfBackend h b) (sym c.with_memory_limit-bounded.ensures) limited in
    subst (λ b. IsHostOfBackend h b) (sym c.with_passes_kept.ensures) bounded
