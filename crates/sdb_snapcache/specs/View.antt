-- The snapshots of a cache.
use Rattle.std.specs.Prelude.{◌≡◌, ℕ, ◌≤◌, List, [], map, length, Option, Some, None, refl, ⊤}
use Rattle.std.specs.Coded.{Coded, code_by, coded×, coded_ℕ, coded_list}
use Rattle.lru.specs.LruCache.{LruCache}
use Rattle.sdb_value.specs.Coding.{value_code}
use Rattle.sdb_value.specs.Value.{Value}
use Rattle.sdb_value.specs.View.{value_of}
use Rattle.sdb_value.specs.declared.value.Json.{Json}
use Rattle.sdb_snapcache.specs.CacheModel.{Snapshot}

abbrev pub snapshot_code : Coded Snapshot
snapshot_code =
    code_by (ℕ × Value) (coded× coded_ℕ value_code) (λ s. (s.version, s.value))
    (λ p. record { version = p.0; value = p.1 }) (λ _. refl)

abbrev pub snapshots_code : Coded (List Snapshot)
snapshots_code = coded_list snapshot_code

abbrev pub plain_snapshot : ℕ × Json → Snapshot
plain_snapshot e = record { version = e.0; value = value_of e.1 }

abbrev pub plain_snapshots : List (ℕ × Json) → List Snapshot
plain_snapshots = map plain_snapshot

-- `None` before the first snapshot
abbrev pub snapshots_of : Option (LruCache ℕ Json) → List Snapshot
snapshots_of None = []
snapshots_of (Some c) = plain_snapshots c.entries

-- the capacity is eight
abbrev pub HasCapacityEight : LruCache ℕ Json → Type 0
HasCapacityEight c = (c.cap ≡ 8) × (length c.entries ≤ 8)

abbrev pub HasCapacityEightOrNone : Option (LruCache ℕ Json) → Type 0
HasCapacityEightOrNone None = ⊤
HasCapacityEightOrNone (Some c) = HasCapacityEight c
