use Rattle.sqlite.specs.Held.{state}
use Rattle.sdb_linefile.proofs.Marking.{found_same, found_some, found_none}
use Rattle.sdb_linefile.proofs.mark.has_mark.Goals as goal

pub returns-clause-same : goal.returns-clause-same
returns-clause-same g c clean =
    found_same (state g.S.Store c.args.conn.now) (state g.S.Store c.query_row.new.self) c.requires c.query_row.result c.has_row.result c.has_row.ensures.some c.has_row.ensures.none (c.query_row.ensures.row clean)

pub returns-clause-some : goal.returns-clause-some
returns-clause-some g c clean =
    found_some (state g.S.Store c.args.conn.now) (state g.S.Store c.query_row.new.self) c.requires c.query_row.result c.has_row.result c.has_row.ensures.some (c.query_row.ensures.row clean)

pub returns-clause-none : goal.returns-clause-none
returns-clause-none g c clean =
    found_none (state g.S.Store c.args.conn.now) (state g.S.Store c.query_row.new.self) c.requires c.query_row.result c.has_row.result c.has_row.ensures.none (c.query_row.ensures.row clean)
