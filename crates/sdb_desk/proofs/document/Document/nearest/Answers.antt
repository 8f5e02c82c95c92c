use Rattle.std.proofs.Common.{refl, take, sym, ap, ◌∙◌}
use Rattle.sdb_oplog.specs.Snap.{snap}
use Rattle.sdb_desk.proofs.CacheLemmas.{with_used, begins_up_to, begins_snap, above_zero}
use Rattle.sdb_snapcache.specs.CacheModel.{nearest}
use Rattle.sdb_desk.proofs.LookLemmas.{on_err_all}
use Rattle.sdb_desk.proofs.document.Document.nearest.Goals as goal

pub invariant_of-self : goal.invariant_of-self
invariant_of-self c = with_used _ c.self.inside.cache _ c.args.version c.clone_nearest.ensures.cache c.self.invariant

pub invariant_of-self-2 : goal.invariant_of-self-2
invariant_of-self-2 c = with_used _ c.self.inside.cache _ c.args.version c.clone_nearest.ensures.cache c.self.invariant

pub returns-clause-bound : goal.returns-clause-bound
returns-clause-bound c = begins_up_to c.args.version c.replay_start.result.0 _ c.self.inside.cache _ (sym c.in_ok-found.ensures.found) c.replay_start.ensures

pub returns-clause-snap : goal.returns-clause-snap
returns-clause-snap c =
    let w = c.replay_start.result.0 in
    ap (λ d. snap (take w d.log)) (sym c.self.view_is)
    ∙ begins_snap c.self.inside.decided c.args.version w _ c.self.inside.cache _ c.self.invariant.cache_is_snaps (sym c.in_ok-found.ensures.found) c.replay_start.ensures

pub returns-in_err-found-clause-memory : goal.returns-in_err-found-clause-memory
returns-in_err-found-clause-memory c =
    on_err_all c.from_residual.result (above_zero c.self.inside.decided c.args.version c.self.inside.cache (nearest c.args.version c.self.inside.cache) c.self.invariant.cache_is_snaps refl c.in_err-found.ensures.memory)
