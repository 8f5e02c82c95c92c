use Rattle.std.proofs.Common.{refl}
use Rattle.sdb_snapcache.proofs.NearestLemmas.{nearest_and_promoted, never_none}
use Rattle.sdb_snapcache.proofs.cache.Cache.nearest.Goals as goal

pub returns-in_err-value : goal.returns-in_err-value
returns-in_err-value c = absurd (never_none c.args.v c.in_ok-version.version c.args.self.now c.promote.new.self c.in_ok-version.ensures.version c.promote.ensures.used c.in_err-value.ensures)

pub returns : goal.returns
returns c = ((refl, λ _. tt, c.promote.ensures.used), record { uses = tt; value = nearest_and_promoted c.args.v c.in_ok-version.version _ c.args.self.now c.promote.new.self c.in_ok-version.ensures.version c.promote.ensures.used c.in_ok-value.ensures })
