use Rattle.std.proofs.Common.{ap, ◌∙◌}
use Rattle.sdb_snapcache.specs.View.{plain_snapshots}
use Rattle.sdb_snapcache.proofs.LruLemmas.{put_made, eight_put}
use Rattle.sdb_snapcache.proofs.cache.insert.Goals as goal

pub returns-clause-ok : goal.returns-clause-ok
returns-clause-ok c = ap (λ k. plain_snapshots k.entries) c.in_ok-put.ensures.entries ∙ put_made c.args.version c.args.value c.args.cached.now c.requires

pub returns-clause-length : goal.returns-clause-length
returns-clause-length c =
    eight_put c.args.version c.args.value c.args.cached.now c.put.new.self c.requires (ap (λ k. k.cap) c.in_ok-put.ensures.entries)
    (ap (λ k. plain_snapshots k.entries) c.in_ok-put.ensures.entries ∙ put_made c.args.version c.args.value c.args.cached.now c.requires)
