use Rattle.sdb_snapcache.proofs.LruLemmas.{apart_of, apart_none}
use Rattle.sdb_snapcache.proofs.cache.Cache.len.Goals as goal

pub returns-in-Some-clause-distinct : goal.returns-in-Some-clause-distinct
returns-in-Some-clause-distinct c = apart_of c.self.inside.snapshots c.in-Some.cached c.args.self.now c.in-Some.is c.self.view_is c.len.ensures.valid.0

pub returns-in-None-clause-distinct : goal.returns-in-None-clause-distinct
returns-in-None-clause-distinct c = apart_none c.self.inside.snapshots c.args.self.now c.in-None.is c.self.view_is
