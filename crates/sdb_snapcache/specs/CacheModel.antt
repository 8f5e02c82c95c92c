-- The snapshots of one document's cache, most recently used first.
use Rattle.std.specs.Prelude.{ℕ, List, [], ◌∷◌, take, cond, ◌&&◌, if◌then◌else◌, nat_eq, nat_le, max, Option, Some, None}
use Rattle.std.specs.Option.{option_map_or}
use Rattle.sdb_value.specs.Value.{Value}

-- the document at a version
pub record Snapshot : Type 0 where
  pub version : ℕ
  pub value : Value

-- s if its version is at most v and not less than the other's
abbrev pub nearer_of : ℕ → Snapshot → Option Snapshot → Option Snapshot
nearer_of v s None = if nat_le s.version v then Some s else None
nearer_of v s (Some t) = if nat_le s.version v && nat_le t.version s.version then Some s else Some t

-- the snapshot with the greatest version up to v
abbrev pub nearest : ℕ → List Snapshot → Option Snapshot
nearest v [] = None
nearest v (s ∷ cached) = nearer_of v s (nearest v cached)

-- the snapshot of this version
abbrev pub snapshot_at_version : ℕ → List Snapshot → Option Snapshot
snapshot_at_version v [] = None
snapshot_at_version v (s ∷ cached) = cond (nat_eq v s.version) (Some s) (snapshot_at_version v cached)

-- the snapshots of other versions
abbrev pub without_version : ℕ → List Snapshot → List Snapshot
without_version v [] = []
without_version v (s ∷ cached) = cond (nat_eq v s.version) cached (s ∷ without_version v cached)

-- the snapshot of this version becomes the first, the most recently used
abbrev pub promote_version : ℕ → List Snapshot → List Snapshot
promote_version v cached = option_map_or (λ s. s ∷ without_version v cached) (snapshot_at_version v cached) cached

-- the snapshot found for v becomes the first
abbrev pub promote_nearest : ℕ → List Snapshot → List Snapshot
promote_nearest v cached = option_map_or (λ s. promote_version s.version cached) (nearest v cached) cached

-- the new snapshot and the others, the first eight
abbrev pub insert_front : ℕ → Value → List Snapshot → List Snapshot
insert_front v d cached = take 8 (record { version = v; value = d } ∷ without_version v cached)

-- the greater of two versions
abbrev pub max_version : Option ℕ → Option ℕ → Option ℕ
max_version o None = o
max_version None (Some w) = Some w
max_version (Some v) (Some w) = Some (max v w)
