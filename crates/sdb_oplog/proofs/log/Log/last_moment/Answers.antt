use Rattle.std.proofs.Common.{sym, ap, ◌∙◌}
use Rattle.sdb_oplog.specs.Moments.{last_moment}
use Rattle.sdb_oplog.proofs.VersionSearch.{last_is}
use Rattle.sdb_oplog.proofs.log.Log.last_moment.Goals as goal

pub returns-in-Some : goal.returns-in-Some
returns-in-Some c =
    c.moment.ensures ∙ sym (last_is 0 c.deref.result.now c.in-Some.entry.now (sym c.in-Some.ensures.value)) ∙ ap last_moment (c.deref.ensures.value ∙ c.self.view_is)
