use denote.Param.Send.{sendable}
use Rattle.std.proofs.Crossing.{crosses}
use Rattle.std.proofs.MapsCrossing as maps
use Rattle.sdb_backend.proofs.SendSync.{Pass-send, Backend-sync}
use Rattle.sdb_backend.proofs.ReplySend.{Key-sync}
use Rattle.sdb_service_tests.proofs.backend.entries_of_two_threads_are_taken_in_order.Goals as goal

pub join-first-requires-send-F : goal.join-first-requires-send-F
join-first-requires-send-F g c κs within = search (sendable, crosses, maps.crosses, Pass-send, Backend-sync, Key-sync) depth 30

pub join-first-requires-send-A : goal.join-first-requires-send-A
join-first-requires-send-A g c κs within = search (sendable, crosses, Pass-send) depth 20

pub is_unknown-requires : goal.is_unknown-requires
is_unknown-requires g c = c.join-first.ensures.first

pub close_with_three_passes-audit-requires-clause-second : goal.close_with_three_passes-audit-requires-clause-second
close_with_three_passes-audit-requires-clause-second g c = c.join-first.ensures.second
