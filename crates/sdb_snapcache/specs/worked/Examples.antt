-- Examples: snapshots of one log, offered and used.
use Rattle.std.specs.Prelude.{◌≡◌, ℕ, List, [], ◌∷◌, map, take, Some, None, unwrap_or, codes, refl, pos}
use Rattle.sdb_value.specs.Value.{Value, null, whole}
use Rattle.sdb_component.specs.Plain.{na}
use Rattle.sdb_oplog.specs.Plain.{PlainContent, create, edit, PlainEntry}
use Rattle.sdb_oplog.specs.Snap.{document_of}
use Rattle.sdb_snapcache.specs.CacheModel.{Snapshot, nearest, promote_nearest, insert_front}

abbrev entry : ℕ → PlainContent → PlainEntry
entry n m =
    record {
      version = n;
      content = m;
      moment = 0;
      arrived = record { src = codes "x"; seq = n; version = None; content = m; via = codes "b"; by = 0 };
    }

abbrev plus_one : ℕ → PlainEntry
plus_one n = entry n (edit (record { path = []; act = na (pos 1) } ∷ []))

-- the document is 1, then 2, and so on
abbrev log : List PlainEntry
log = entry 0 (create (whole (pos 1))) ∷ map plus_one (1 ∷ 2 ∷ 3 ∷ 4 ∷ 5 ∷ 6 ∷ 7 ∷ 8 ∷ 9 ∷ [])

abbrev at_version : ℕ → Value
at_version n = unwrap_or (document_of (take n log)) null

-- the snapshots of these versions are offered in order
abbrev offer : List ℕ → List Snapshot → List Snapshot
offer [] cached = cached
offer (n ∷ ns) cached = offer ns (insert_front n (at_version n) cached)

abbrev versions : List Snapshot → List ℕ
versions = map (λ s. s.version)

abbrev nine : List Snapshot
nine = offer (1 ∷ 2 ∷ 3 ∷ 4 ∷ 5 ∷ 6 ∷ 7 ∷ 8 ∷ 9 ∷ []) []

-- the first was removed as the least recently used
pub row_nine : versions nine ≡ 9 ∷ 8 ∷ 7 ∷ 6 ∷ 5 ∷ 4 ∷ 3 ∷ 2 ∷ []
row_nine = refl

pub row_removed : nearest 1 nine ≡ None
row_removed = refl

pub row_second : nearest 2 nine ≡ Some (record { version = 2; value = whole (pos 2) })
row_second = refl

-- the second was used, so the third is removed
abbrev ten : List Snapshot
ten = offer (10 ∷ []) (promote_nearest 2 nine)

pub row_used : versions ten ≡ 10 ∷ 2 ∷ 9 ∷ 8 ∷ 7 ∷ 6 ∷ 5 ∷ 4 ∷ []
row_used = refl

pub row_third : nearest 3 ten ≡ Some (record { version = 2; value = whole (pos 2) })
row_third = refl

-- one that is offered again is the first, with its new value
pub row_again : versions (offer (5 ∷ []) ten) ≡ 5 ∷ 10 ∷ 2 ∷ 9 ∷ 8 ∷ 7 ∷ 6 ∷ 4 ∷ []
row_again = refl
