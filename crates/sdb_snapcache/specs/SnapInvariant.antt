-- Snapshots of one log.
use Rattle.std.specs.Prelude.{◌≡◌, ◌≤◌, List, take, length, Some}
use Rattle.std.specs.List.{AllByRecursion}
use Rattle.sdb_oplog.specs.Plain.{PlainEntry}
use Rattle.sdb_oplog.specs.Snap.{snap}
use Rattle.sdb_snapcache.specs.CacheModel.{Snapshot}

-- the document at this version of the log
pub record IsSnapOf (log : List PlainEntry) (s : Snapshot) : Type 0 where
  pub within : s.version ≤ length log
  pub is : snap (take s.version log) ≡ Some (Some s.value)

abbrev pub AreSnapsOf : List PlainEntry → List Snapshot → Type 0
AreSnapsOf log = AllByRecursion (IsSnapOf log)
