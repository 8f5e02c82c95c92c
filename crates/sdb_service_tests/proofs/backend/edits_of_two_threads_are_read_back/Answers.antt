use denote.Param.Send.{sendable}
use Rattle.std.proofs.Crossing.{crosses}
use Rattle.std.proofs.MapsCrossing as maps
use Rattle.sdb_backend.proofs.SendSync.{Pass-send, Backend-sync}
use Rattle.sdb_backend.proofs.ReplySend.{Key-sync, Reply-send}
use Rattle.sdb_service_tests.proofs.backend.edits_of_two_threads_are_read_back.Goals as goal

pub join-first-requires-send-F : goal.join-first-requires-send-F
join-first-requires-send-F g c κs within = search (sendable, crosses, maps.crosses, Pass-send, Backend-sync, Key-sync) depth 30

pub join-first-requires-send-A : goal.join-first-requires-send-A
join-first-requires-send-A g c κs within = search (sendable, crosses, Pass-send, Reply-send) depth 20

pub close_after_refusal-audit-requires-clause-first : goal.close_after_refusal-audit-requires-clause-first
close_after_refusal-audit-requires-clause-first g c = c.join-first.ensures.first

pub close_after_refusal-audit-requires-clause-second : goal.close_after_refusal-audit-requires-clause-second
close_after_refusal-audit-requires-clause-second g c = c.join-first.ensures.second
