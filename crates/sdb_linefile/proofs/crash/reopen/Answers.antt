use Rattle.std.proofs.Common.{◌∙◌, sym, arith}
use Rattle.sqlite_trees.specs.View.{IsClean}
use Rattle.sqlite.specs.Held.{state}
use Rattle.sdb_linefile.proofs.Opened.{at_ok, stores_either}
use Rattle.sdb_linefile.proofs.crash.reopen.Goals as goal

pub returns-in-Ok-clause-left : goal.returns-in-Ok-clause-left
returns-in-Ok-clause-left g c clean these those leaves =
    let mid : IsClean (g.S.Store.view c.crash_and_reopen.new.self) = omega (arith, c.in-Ok.ensures.clean) in
    let found = at_ok c.crash_and_reopen.result (sym c.is_err.ensures.value ∙ c.if-is_err.false) c.crash_and_reopen.ensures.found mid in
    let fresh = at_ok c.crash_and_reopen.result (sym c.is_err.ensures.value ∙ c.if-is_err.false) c.crash_and_reopen.ensures.fresh in
    let opened = c.in-Ok.ensures.opens clean in
    stores_either (state g.S.Store c.in-Ok.again) these those (g.S.Store.view c.crash_and_reopen.new.self).committed opened.0 opened.1
    (λ is_open left may. g.met.S.Store.settled c.in-Ok.again.store left is_open may)
    (c.in-Ok.ensures.trees clean ∙ fresh.clean) (leaves _ (c.into_store-store.ensures.quiet.outcomes _ found))
