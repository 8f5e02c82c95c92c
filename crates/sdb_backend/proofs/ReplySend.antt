-- Send and Sync of what threads borrow and return.
use denote.Param.Send.{IsSend, IsSync, sendable}
use Rattle.std.proofs.Crossing.{crosses}
use Rattle.std.proofs.MapsCrossing as maps
use Rattle.sdb_oplog.specs.contracts.keys.Key as Key
use Rattle.sdb_desk.specs.contracts.document.Reply as Reply
use Rattle.sdb_backend.proofs.SendSync.{Entry-send}

pub Key-sync : IsSync Key.the_row
Key-sync = search (sendable, crosses, maps.crosses) depth 20

pub Reply-send : IsSend Reply.the_row
Reply-send = search (sendable, crosses, maps.crosses, Entry-send) depth 20
