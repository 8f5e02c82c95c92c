-- The cache after a borrow of one of its values has ended.
use Rattle.std.specs.Prelude.{◌≡◌, List, ⊤}
use Rattle.std.specs.Borrow.{Fml, MutBor, follows_so}
use mathlib.Core.Option.{none}
use Rattle.sdb_snapcache.specs.CacheModel.{Snapshot}
use Rattle.sdb_snapcache.specs.contracts.cache.Cache.{the_row}

-- the cache then has these snapshots
abbrev pub borrow_ends_with_cache : MutBor (List Snapshot) → List Snapshot → Fml
borrow_ends_with_cache c cached = follows_so the_row the_row c.ghost_name none (λ _ _. ⊤) (λ n. n ≡ cached)
