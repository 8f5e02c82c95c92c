use denote.Param.Send.{sendable}
use Rattle.std.proofs.Crossing.{crosses}
use Rattle.sdb_event_loop.proofs.SendSync.{SlotsOfLoops-send, SlotsOfLoops-sync}
use Rattle.sdb_event_loop.proofs.loop_threads.start_watcher.Goals as goal

pub spawn-requires-send-F : goal.spawn-requires-send-F
spawn-requires-send-F g c κs within =
    let send = c.type_bounds.send-R in
    let sync = c.type_bounds.sync-R in
    let policy_send = c.type_bounds.send-P in
    let policy_sync = c.type_bounds.sync-P in
    let brand_send = c.type_bounds.send-B in
    search (SlotsOfLoops-send, SlotsOfLoops-sync, sendable, crosses) depth 40
