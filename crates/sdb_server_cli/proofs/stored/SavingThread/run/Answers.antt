use Rattle.std.proofs.Common.{sym, ap, ◌∙◌, subst}
use Rattle.sdb_backend.specs.PassModel.{IsPassOfBackend}
use Rattle.sdb_event_loop.specs.LoopModel.{loops_backend}
use Rattle.sdb_store.specs.SaverModel.{saver_pass}
use Rattle.sdb_server_cli.proofs.stored.SavingThread.run.Goals as goal

pub save_until_closed-saved-requires : goal.save_until_closed-saved-requires
save_until_closed-saved-requires g c =
    let same = c.backend-backend.ensures ∙ ap (λ s. loops_backend s) c.deref.ensures in
    subst (λ b. IsPassOfBackend (saver_pass c.args.self.saver) b) (sym same) c.args.self.pass_belongs
