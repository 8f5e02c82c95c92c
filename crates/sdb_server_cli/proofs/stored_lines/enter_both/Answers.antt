use Rattle.std.proofs.Common.{sym, subst}
use Rattle.sdb_backend.specs.PassModel.{IsPassOfBackend}
use Rattle.sdb_server_cli.proofs.stored_lines.enter_both.Goals as goal

pub returns-in-Ok-Ok : goal.returns-in-Ok-Ok
returns-in-Ok-Ok g c =
    let saving = subst (λ p. IsPassOfBackend p c.args.backend.now) (sym c.new.ensures.pass) c.list_unsaved.ensures.pass in
    record { passes = (c.in-Ok-Ok.ensures.ok.belongs, saving) }
