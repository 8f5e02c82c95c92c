use Rattle.std.proofs.Common.{◌≡◌, take, Some, option_map}
use Rattle.sdb_value.specs.View.{value_of}
use Rattle.sdb_oplog.specs.Snap.{snap}
use Rattle.sdb_oplog.proofs.log.Log.replay_from.Given as goal

abbrev pub invariant-loop-at : goal.invariant-loop-at
invariant-loop-at l = snap (take l.at l.entries) ≡ Some (option_map value_of l.replayed)
