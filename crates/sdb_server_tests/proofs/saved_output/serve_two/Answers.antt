use denote.Param.Send.{IsSend, IsSync, sendable}
use Rattle.std.proofs.Crossing.{crosses}
use Rattle.std.proofs.MapsCrossing as maps
use Rattle.sdb_projection.specs.contracts.table.Table as Table
use Rattle.sdb_connection.proofs.SendSync.{LoopServer-send, LoopServer-sync}
use Rattle.sdb_loop_state.proofs.SendSync.{SaveProgress-send, SaveProgress-sync}
use Rattle.sdb_server_tests.proofs.saved_output.serve_two.Goals as goal

Table-send : IsSend Table.the_row
Table-send = search (sendable, crosses, maps.crosses) depth 20

Table-sync : IsSync Table.the_row
Table-sync = search (sendable, crosses, maps.crosses) depth 20

pub listen_on_loops-requires-after_bounds : goal.listen_on_loops-requires-after_bounds
listen_on_loops-requires-after_bounds g c κs within = c.in_ok-state.ensures c.in_ok-backend.host c.in_ok-backend.ensures.host

pub spawn-requires-send-F : goal.spawn-requires-send-F
spawn-requires-send-F g c κs within =
    let send = c.type_bounds.send-R in
    let sync = c.type_bounds.sync-R in
    search (LoopServer-send, LoopServer-sync, SaveProgress-send, SaveProgress-sync, Table-send, Table-sync, sendable, crosses) depth 40
