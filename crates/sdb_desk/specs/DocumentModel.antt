-- The state of a document.
use Rattle.std.specs.Prelude.{◌≡◌, ◌≢◌, ℕ, List, [], length, Option, Some, None}
use Rattle.sdb_value.specs.Value.{Value}
use Rattle.sdb_oplog.specs.Plain.{PlainEntry, PlainSubmission}
use Rattle.sdb_oplog.specs.Decide.{decide, stored, missed_entries, IsMade}
use Rattle.sdb_snapcache.specs.CacheModel.{Snapshot}
use Rattle.sdb_snapcache.specs.SnapInvariant.{AreSnapsOf}

-- the log and its cached snapshots
pub record PlainDocument : Type 0 where
  pub log : List PlainEntry
  pub cache : List Snapshot

-- the document without entries
abbrev pub empty_document : PlainDocument
empty_document = record { log = []; cache = [] }

-- a submission is stored
pub record DocumentAfterStore (s : PlainSubmission) (now : ℕ) (old new : PlainDocument) : Type 0 where
  pub reply : (decide old.log s now).reply ≡ stored (length old.log) (missed_entries old.log s)
  pub document : new ≡ record { log = (decide old.log s now).log; cache = old.cache }

-- the log is made and isn't empty, and the cache has snapshots of it
pub record IsDocument (log : List PlainEntry) (kept : List Snapshot) : Type 0 where
  pub is_made : IsMade log
  pub not_empty : log ≢ []
  pub cache_is_snaps : AreSnapsOf log kept

-- a replay starts with the given snapshot, or with the absent document at version 0
abbrev pub IsReplayStart : Option Snapshot → ℕ → Option Value → Type 0
IsReplayStart None v d = (v ≡ 0) × (d ≡ None)
IsReplayStart (Some s) v d = (v ≡ s.version) × (d ≡ Some s.value)
