use Rattle.std.proofs.Common.{◌≡◌}
use Rattle.sdb_snapcache.specs.CacheModel.{max_version}
use Rattle.sdb_snapcache.specs.View.{plain_snapshots}
use Rattle.sdb_snapcache.proofs.NearestLemmas.{version_for}
use Rattle.sdb_snapcache.proofs.cache.nearest_version.Given as goal

abbrev pub invariant-loop-version : goal.invariant-loop-version
invariant-loop-version l = max_version l.found (version_for l.v (plain_snapshots l.version-iterator)) ≡ version_for l.v (plain_snapshots l.cached.entries)
