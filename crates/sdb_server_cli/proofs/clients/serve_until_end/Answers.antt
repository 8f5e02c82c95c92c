use denote.Param.Send.{IsSend, IsSync, sendable}
use Rattle.std.proofs.Common.{sym, ap, ◌∙◌, subst}
use Rattle.std.proofs.Crossing.{crosses}
use Rattle.std.proofs.MapsCrossing as maps
use Rattle.sdb_projection.specs.contracts.table.Table as Table
use Rattle.sdb_backend.specs.PassModel.{IsHostOfBackend, IsPassOfBackend}
use Rattle.sdb_growlock.specs.LockRule.{ForEach}
use Rattle.sdb_event_loop.specs.LoopModel.{IsHostOfLoops}
use Rattle.sdb_connection.proofs.SendSync.{LoopServer-send, LoopServer-sync}
use Rattle.sdb_server_cli.proofs.clients.serve_until_end.Goals as goal

Table-send : IsSend Table.the_row
Table-send = search (sendable, crosses, maps.crosses) depth 20

Table-sync : IsSync Table.the_row
Table-sync = search (sendable, crosses, maps.crosses) depth 20

pub listen_on_loops-requires-after_bounds : goal.listen_on_loops-requires-after_bounds
listen_on_loops-requires-after_bounds g c κs within =
    let host = c.in_ok-backend.host in
    subst (λ s. IsHostOfLoops host s) (sym c.in_ok-state.ensures.ok) (c.in_ok-server.ensures host c.in_ok-backend.ensures.host)

pub spawn-requires-send-F : goal.spawn-requires-send-F
spawn-requires-send-F g c κs within =
    let send = c.type_bounds.send-R in
    let sync = c.type_bounds.sync-R in
    let input = c.type_bounds.send-I in
    search (LoopServer-send, LoopServer-sync, Table-send, Table-sync, sendable, crosses) depth 40

pub close-requires-clause-host : goal.close-requires-clause-host
close-requires-clause-host g c =
    let same = c.into_backend.ensures ∙ ap (λ s. s.backend) c.in-Ok.ensures.ok in
    subst (λ b. IsHostOfBackend c.listen_on_loops.new.host b) (sym same) c.in_ok-passes.ensures.host

pub close-requires-clause-passes : goal.close-requires-clause-passes
close-requires-clause-passes g c =
    let same = c.into_backend.ensures ∙ ap (λ s. s.backend) c.in-Ok.ensures.ok in
    subst (λ b. ForEach (λ p. IsPassOfBackend p b) c.in_ok-passes.passes.items) (sym same) c.in_ok-passes.ensures.passes
