use Rattle.std.proofs.Common.{sym, subst}
use Rattle.sdb_backend.specs.PassModel.{IsHostOfBackend}
use Rattle.sdb_server_tests.proofs.saved_output.saving_server.Goals as goal

pub returns : goal.returns
returns g c = λ h is.
    let saving = subst (λ b. IsHostOfBackend h b) (sym c.with_progress-saving.ensures) (c.in_ok-state.ensures h is) in
    subst (λ s. IsHostOfBackend h s.backend) (sym c.in_ok-new.ensures.ok) saving
