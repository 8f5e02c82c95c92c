-- Replay bases, copied under a lock and replayed without it.
use Rattle.std.specs.Prelude.{◌≡◌, ℕ, ◌≤◌, List, length, take, Option, Some, Result, Ok, Err}
use Rattle.sdb_value.specs.Value.{Value}
use Rattle.sdb_oplog.specs.Keys.{PlainKey}
use Rattle.sdb_oplog.specs.Moments.{version_at}
use Rattle.sdb_oplog.specs.Plain.{PlainEntry}
use Rattle.sdb_oplog.specs.Snap.{document_of}
use Rattle.sdb_oplog.specs.declared.codes.Code.{Code}
use Rattle.sdb_desk.specs.Machine.{Machine, ReadOrOutOfMemory, read_has_version, snapshot_at, fetch_at_moment}
use Rattle.sdb_desk.specs.Reads.{PlainReplayBase, IsReplayBaseUpTo}
use Rattle.sdb_desk.specs.View.{plain_replay_base}
use Rattle.sdb_desk.specs.declared.replay_base.ReplayBase.{ReplayBase}
use Rattle.sdb_backend.specs.declared.jobs.ReplayBaseAt.{ReplayBaseAt}

abbrev pub replay_base_view : Result ReplayBase Code → Result PlainReplayBase Code
replay_base_view (Ok l) = Ok (plain_replay_base l)
replay_base_view (Err code) = Err code

-- a replay base of the document at a version, or of an earlier one, or the code with which a read of that version fails
abbrev pub IsReplayBaseOrError : Machine → PlainKey → ℕ → ℕ → Result PlainReplayBase Code → Type 0
IsReplayBaseOrError m k v max (Ok l) = IsReplayBaseUpTo (m.logs k) v max l
IsReplayBaseOrError m k v max (Err code) = ReadOrOutOfMemory read_has_version (Err code) (snapshot_at (m.logs k) (Some v))

-- the version at a moment, and the replay base for it
pub record PlainReplayBaseAt : Type 0 where
  pub version : ℕ
  pub base : PlainReplayBase

abbrev pub replay_base_at_view : Result ReplayBaseAt Code → Result PlainReplayBaseAt Code
replay_base_at_view (Ok l) = Ok (record { version = l.version; base = plain_replay_base l.base })
replay_base_at_view (Err code) = Err code

-- a replay base of the document at a moment, or of an earlier one, or the code with which a read of that moment fails;
-- the current document is its own replay base
abbrev pub IsReplayBaseAtOrError : Machine → PlainKey → ℕ → ℕ → Result PlainReplayBaseAt Code → Type 0
IsReplayBaseAtOrError m k t max (Ok l) =
    (l.version ≡ version_at (m.logs k) t) × IsReplayBaseUpTo (m.logs k) l.version max l.base
    × (l.version ≡ length (m.logs k) → l.base.version ≡ l.version)
IsReplayBaseAtOrError m k t max (Err code) = ReadOrOutOfMemory read_has_version (Err code) (Ok (fetch_at_moment (m.logs k) (Some t)))

-- the document at a version that the log has
abbrev pub IsDocumentAt : List PlainEntry → ℕ → Option Value → Type 0
IsDocumentAt log v d = (v ≤ length log) × (document_of (take v log) ≡ d)
