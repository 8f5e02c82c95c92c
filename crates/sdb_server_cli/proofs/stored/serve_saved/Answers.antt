use Rattle.std.proofs.Common.{sym, subst}
use Rattle.sdb_backend.specs.PassModel.{IsPassOfBackend, IsHostOfBackend}
use Rattle.sdb_event_loop.specs.LoopModel.{IsHostOfLoops, loops_backend}
use Rattle.sdb_store.specs.SaverModel.{saver_pass}
use Rattle.sdb_server_cli.proofs.stored.serve_saved.Goals as goal

pub create_saver-requires : goal.create_saver-requires
create_saver-requires g c =
    let host = c.args.restored.host in
    let saved = subst (λ b. IsHostOfBackend host b) (sym c.with_progress.ensures) (c.in_ok-server.ensures host c.requires) in
    let shared = subst (λ s. IsHostOfLoops host s) (sym c.in_ok-state.ensures.ok) saved in
    subst (λ s. IsHostOfLoops host s) (sym c.deref.ensures) shared

pub start_saving-requires-after_bounds : goal.start_saving-requires-after_bounds
start_saving-requires-after_bounds g c κs within =
    subst (λ s. IsPassOfBackend (saver_pass c.in_ok-saver.saver) (loops_backend s)) c.deref.ensures c.in_ok-saver.ensures.pass

pub serve_until-served-requires-after_bounds : goal.serve_until-served-requires-after_bounds
serve_until-served-requires-after_bounds g c κs within =
    subst (λ s. IsHostOfLoops c.create_saver.new.host s) c.deref.ensures c.in_ok-saver.ensures.host
