use Rattle.std.proofs.Common.{sym, subst}
use Rattle.sdb_backend.specs.PassModel.{IsPassOfBackend, IsHostOfBackend}
use Rattle.sdb_event_loop.specs.LoopModel.{loops_backend}
use Rattle.sdb_server_cli.proofs.stored.create_saver.Goals as goal

pub returns-in-Ok-clause-host : goal.returns-in-Ok-clause-host
returns-in-Ok-clause-host g c = subst (λ b. IsHostOfBackend c.enter.new.host b) c.backend-backend.ensures c.enter.ensures.host

pub returns-in-Ok-clause-pass : goal.returns-in-Ok-clause-pass
returns-in-Ok-clause-pass g c =
    let belongs = subst (λ b. IsPassOfBackend c.list_unsaved.new.pass b) c.backend-backend.ensures c.list_unsaved.ensures.pass in
    subst (λ p. IsPassOfBackend p (loops_backend c.args.state.now)) (sym c.new.ensures.pass) belongs
