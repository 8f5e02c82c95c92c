use Rattle.std.proofs.Common.{◌-◌, ◌≤◌, option_map}
use Rattle.sdb_value.specs.View.{value_of}
use Rattle.sdb_oplog.specs.Keys.{plain_key}
use Rattle.sdb_backend.specs.ReplaysInParts.{HasOnlyRead}
use Rattle.sdb_backend.proofs.ReplayPartLemmas.{IsPartSeenBy}
use Rattle.sdb_backend.proofs.replays.replay_in_parts.Given as goal

abbrev pub invariant-loop-at : goal.invariant-loop-at
invariant-loop-at g l =
    let k = plain_key l.key in
    record {
      belongs : g.S.EntrySource.accepts l.source l.pass;
      read : HasOnlyRead k l.fn.pass l.pass;
      part : IsPartSeenBy k l.pass l.version l.at (option_map value_of l.snapshot);
      before : l.at ≤ l.version;
    }

abbrev pub decreases-loop-at : goal.decreases-loop-at
decreases-loop-at g l = l.version - l.at
