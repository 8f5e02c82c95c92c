use Rattle.std.proofs.Common.{ap, sym, ◌∙◌}
use Rattle.sdb_snapcache.specs.CacheModel.{promote_nearest}
use Rattle.sdb_snapcache.specs.View.{plain_snapshots}
use Rattle.sdb_snapcache.proofs.LruLemmas.{eight_of, eight_used, unchanged_of, used_entries}
use Rattle.sdb_snapcache.proofs.NearestLemmas.{used_version}
use Rattle.sdb_snapcache.proofs.cache.Cache.promote.Goals as goal

pub invariant_of-self-2 : goal.invariant_of-self-2
invariant_of-self-2 c =
    let k = c.in_ok-cached.cached.now in
    let eight = eight_of c.self.inside.snapshots k c.in_ok-cached.ensures.value c.self.invariant in
    (ap (λ n. n.cap) c.promote.ensures.entries ∙ eight.0, eight_used c.in_ok-version.version k.entries c.promote.new.self.entries (ap (λ n. n.entries) c.promote.ensures.entries) eight.1)

pub returns-clause-used : goal.returns-clause-used
returns-clause-used c =
    let k = c.in_ok-cached.cached.now in
    let n = c.in_ok-version.version in
    ap (λ m. plain_snapshots m.entries) c.promote.ensures.entries ∙ sym (used_entries n k.entries) ∙ sym (used_version c.args.v n (plain_snapshots k.entries) c.in_ok-version.ensures)
    ∙ ap (promote_nearest c.args.v) (unchanged_of c.self.inside.snapshots k c.in_ok-cached.ensures.value ∙ c.self.view_is)
