use Rattle.std.proofs.Common.{sym, subst}
use Rattle.sdb_event_loop.specs.LoopModel.{IsHostOfLoops}
use Rattle.sdb_server_cli.proofs.clients.serve_count.Goals as goal

pub listen_on_loops-requires-after_bounds : goal.listen_on_loops-requires-after_bounds
listen_on_loops-requires-after_bounds g c κs within =
    let host = c.in_ok-backend.host in
    subst (λ s. IsHostOfLoops host s) (sym c.in_ok-state.ensures.ok) (c.in_ok-server.ensures host c.in_ok-backend.ensures.host)
