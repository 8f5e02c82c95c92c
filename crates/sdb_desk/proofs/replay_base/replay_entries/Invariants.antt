use Rattle.std.proofs.Common.{◌≡◌, drop, option_map}
use Rattle.sdb_value.specs.View.{value_of}
use Rattle.sdb_oplog.specs.Snap.{snap_from}
use Rattle.sdb_desk.proofs.replay_base.replay_entries.Given as goal

abbrev pub invariant-loop-entry : goal.invariant-loop-entry
invariant-loop-entry l =
    snap_from (option_map value_of l.fn.snapshot) l.entries ≡ snap_from (option_map value_of l.replayed) (drop l.entry-index l.entries)
