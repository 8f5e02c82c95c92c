use denote.Param.Send.{sendable}
use Rattle.std.proofs.Crossing.{crosses}
use Rattle.sdb_connection.proofs.SendSync.{LoopServer-send, LoopServer-sync}
use Rattle.sdb_server_cli.proofs.SendSync.{Table-send, Table-sync}
use Rattle.sdb_server_cli.proofs.stored.stop_at_end.Goals as goal

pub spawn-requires-send-F : goal.spawn-requires-send-F
spawn-requires-send-F g c κs within =
    let send = c.type_bounds.send-R in
    let sync = c.type_bounds.sync-R in
    let input = c.type_bounds.send-I in
    search (LoopServer-send, LoopServer-sync, Table-send, Table-sync, sendable, crosses) depth 40
