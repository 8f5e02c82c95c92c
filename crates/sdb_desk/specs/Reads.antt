-- The effect of a read by version on the snapshot cache.
use Rattle.std.specs.Prelude.{◌≡◌, ℕ, ◌+◌, ◌<◌, ◌≤◌, min, List, length, take, drop, Option, Some, None, Result, Ok, Err, ◌⊎◌}
use Rattle.sdb_value.specs.Value.{Value}
use Rattle.sdb_oplog.specs.Plain.{PlainEntry}
use Rattle.sdb_oplog.specs.Snap.{document_of, snap_from}
use Rattle.sdb_snapcache.specs.CacheModel.{Snapshot, nearest, promote_nearest, insert_front}
use Rattle.sdb_desk.specs.DocumentModel.{IsReplayStart}

-- the cache after a document was offered: it is inserted, unless it is absent or an allocation failed
abbrev pub CacheAfterOffer : ℕ → Option Value → List Snapshot → List Snapshot → Type 0
CacheAfterOffer v None kept new = new ≡ kept
CacheAfterOffer v (Some d) kept new = (new ≡ insert_front v d kept) ⊎ (new ≡ kept)

-- the cache after the nearest snapshot was used; the current version and a version above it use none
abbrev pub CacheAfterUse : List PlainEntry → ℕ → List Snapshot → List Snapshot → Type 0
CacheAfterUse log v kept new = ((length log ≤ v) × (new ≡ kept)) ⊎ ((v < length log) × (new ≡ promote_nearest v kept))

-- the cache after a read with this result: an older document uses the nearest snapshot and is offered; a refused read
-- offers nothing
abbrev pub CacheAfterRead : {A E : Type 0} → List PlainEntry → ℕ → Result A E → List Snapshot → List Snapshot → Type 0
CacheAfterRead log v (Ok a) kept new =
    ((length log ≤ v) × (new ≡ kept))
    ⊎ ((v < length log) × CacheAfterOffer v (document_of (take v log)) (promote_nearest v kept) new)
CacheAfterRead log v (Err e) kept new = CacheAfterUse log v kept new

-- ---- replay bases

-- a version, the document at it, and the entries from there on
pub record PlainReplayBase : Type 0 where
  pub version : ℕ
  pub snapshot : Option Value
  pub entries : List PlainEntry

-- a replay base of a version of the log: its entries reach the version, and their replay is the document at it
abbrev pub IsReplayBase : List PlainEntry → ℕ → PlainReplayBase → Type 0
IsReplayBase log v l =
    (v ≤ length log) × (l.entries ≡ drop l.version (take v log))
    × (snap_from l.snapshot l.entries ≡ Some (document_of (take v log)))

-- a replay base of a version; if more than `max` entries are before it, of the version that the first `max` of them reach
pub record IsReplayBaseUpTo (log : List PlainEntry) (v max : ℕ) (l : PlainReplayBase) : Type 0 where
  pub within : v ≤ length log
  pub before : l.version ≤ v
  pub base : IsReplayBase log (min (l.version + max) v) l

-- an older document starts with the nearest cached snapshot, the current one with itself
abbrev pub IsCachedReplayBase : List PlainEntry → List Snapshot → ℕ → PlainReplayBase → Type 0
IsCachedReplayBase log kept v l =
    ((length log ≤ v) × (l.version ≡ v)) ⊎ ((v < length log) × IsReplayStart (nearest v kept) l.version l.snapshot)
