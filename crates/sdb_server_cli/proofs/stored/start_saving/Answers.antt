use denote.Param.Send.{sendable}
use Rattle.std.proofs.Common.{sym, subst}
use Rattle.std.proofs.Crossing.{crosses}
use Rattle.sdb_backend.specs.PassModel.{IsPassOfBackend}
use Rattle.sdb_event_loop.specs.LoopModel.{loops_backend}
use Rattle.sdb_store.specs.SaverModel.{saver_pass}
use Rattle.sdb_server_cli.proofs.SendSync.{SavingThread-send}
use Rattle.sdb_server_cli.proofs.stored.start_saving.Goals as goal

pub invariant_of-saving : goal.invariant_of-saving
invariant_of-saving g c =
    record { pass_belongs = subst (λ s. IsPassOfBackend (saver_pass c.args.saver) (loops_backend s)) (sym c.in_ok-state.ensures) c.requires }

pub spawn-requires-send-F : goal.spawn-requires-send-F
spawn-requires-send-F g c κs within =
    let send = c.type_bounds.send-R in
    let sync = c.type_bounds.sync-R in
    let writer = c.type_bounds.send-W in
    search (SavingThread-send, sendable, crosses) depth 40
