use Rattle.std.proofs.Common.{sym, subst}
use Rattle.sdb_backend.specs.PassModel.{IsHostOfBackend}
use Rattle.sdb_event_loop.specs.LoopModel.{IsHostOfLoops}
use Rattle.sdb_example_embedded.proofs.main.Goals as goal

pub listen_on_loops-requires-after_bounds : goal.listen_on_loops-requires-after_bounds
listen_on_loops-requires-after_bounds g c κs =
    let limited = subst (λ b. IsHostOfBackend c.in_ok-backend.host b) (sym c.with_session_limit.ensures) (c.in_ok-state.ensures c.in_ok-backend.host c.in_ok-backend.ensures.host) in
    subst (λ s. IsHostOfLoops c.in_ok-backend.host s) (sym c.in_ok-state-2.ensures.ok) limited
