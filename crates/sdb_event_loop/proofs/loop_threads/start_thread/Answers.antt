use denote.Param.Send.{sendable}
use Rattle.std.proofs.Crossing.{crosses}
use Rattle.sdb_event_loop.proofs.SendSync.{LoopRunner-send}
use Rattle.sdb_event_loop.proofs.loop_threads.start_thread.Goals as goal

pub spawn-requires-send-F : goal.spawn-requires-send-F
spawn-requires-send-F g c κs within =
    let send = c.type_bounds.send-R in
    let sync = c.type_bounds.sync-R in
    let policy_send = c.type_bounds.send-P in
    let policy_sync = c.type_bounds.sync-P in
    let brand_send = c.type_bounds.send-B in
    search (LoopRunner-send, sendable, crosses) depth 40
