use denote.Param.Send.{sendable}
use Rattle.std.proofs.Crossing.{crosses}
use Rattle.std.proofs.MapsCrossing as maps
use Rattle.sdb_backend.proofs.SendSync.{Pass-send, Backend-sync, Submission-send}
use Rattle.sdb_backend.proofs.ReplySend.{Key-sync}
use Rattle.sdb_service_tests.proofs.backend.a_blocked_submission_blocks_no_other.Goals as goal

pub join-slow-requires-send-F : goal.join-slow-requires-send-F
join-slow-requires-send-F g c κs within = search (sendable, crosses, maps.crosses, Pass-send, Backend-sync, Key-sync, Submission-send) depth 30

pub join-slow-requires-send-A : goal.join-slow-requires-send-A
join-slow-requires-send-A g c κs within = search (sendable, crosses, Pass-send) depth 20

pub fetch_counter-requires : goal.fetch_counter-requires
fetch_counter-requires g c = c.join-slow.ensures.first
