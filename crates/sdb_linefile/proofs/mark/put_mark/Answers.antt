use Rattle.std.proofs.Common.{◌∙◌, IsTrue, refl, sym, subst, rules}
use Rattle.sqlite.specs.Held.{state}
use Rattle.sdb_linefile.specs.LineTable.{ShowsLines}
use Rattle.sdb_linefile.proofs.Marking.{marked_before}
use Rattle.sdb_linefile.proofs.mark.put_mark.Goals as goal

pub returns-in_ok-insert_mark-clause-ok : goal.returns-in_ok-insert_mark-clause-ok
returns-in_ok-insert_mark-clause-ok g c clean lines has =
    let same = c.in_ok-has_mark.ensures.same (c.insert_mark.ensures.clean clean) in
    c.in_ok-insert_mark.ensures.ok clean lines (subst (ShowsLines lines) (sym same.0.now_is) has.now) (same.0.mode ∙ c.requires.autocommit)

pub returns-else-not-branch-clause-ok : goal.returns-else-not-branch-clause-ok
returns-else-not-branch-clause-ok g c clean lines has =
    let single : IsTrue c.is_autocommit-settled.result = rw (c.is_autocommit-settled.ensures.value, c.requires.autocommit) refl in
    let found : IsTrue c.in_ok-has_mark.field-0 = search rules in
    marked_before lines (state g.S.Store c.args.conn.now) (state g.S.Store c.has_mark.new.conn) has (c.is_autocommit-settled.ensures.settled single) (c.schema-live.ensures.live has.is_open).0
    (c.in_ok-has_mark.ensures.some clean found lines has.now) (c.in_ok-has_mark.ensures.same clean)
