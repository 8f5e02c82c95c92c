-- The invariant of a log.
use Rattle.std.specs.Prelude.{◌≡◌, ℕ, ◌≤◌, ◌<◌, List, [], ◌∷◌, ◌++◌, length, true, None}
use Rattle.std.specs.Option.{is_some}
use Rattle.sdb_oplog.specs.Plain.{PlainEntry}
use Rattle.sdb_oplog.specs.Snap.{are_identifiers_new, snap, stored_at}
use Rattle.sdb_oplog.specs.Moments.{last_moment, MomentsOrderedFrom}
use Rattle.sdb_oplog.specs.IndexModel.{indexed_version}
use Rattle.sdb_oplog.specs.declared.index.Index.{Index}

-- source and seq are unique, each entry applies, moments never decrease, the length is bounded, and the index has each
-- version
pub record LogInvariant (es : List PlainEntry) (x : Index) : Type 0 where
  pub identifiers_unique : are_identifiers_new [] es ≡ true
  pub every_entry_applies : is_some (snap es) ≡ true
  pub moments_ordered : MomentsOrderedFrom 0 es
  pub length_in_range : length es ≤ 9007199254740991
  pub index_is_exact : (s : List ℕ) (n : ℕ) → indexed_version x s n ≡ stored_at s n es

-- the entry has a new source and seq and applies after the log, which has room for it; its moment is not before the last
pub record CanAppend (log : List PlainEntry) (entry : PlainEntry) : Type 0 where
  pub is_new : stored_at entry.arrived.src entry.arrived.seq log ≡ None
  pub entry_applies : is_some (snap (log ++ entry ∷ [])) ≡ true
  pub moment_ordered : last_moment log ≤ entry.moment
  pub has_room : length log < 9007199254740991
