use Rattle.sdb_linefile.proofs.Marking.{marks}
use Rattle.sqlite.specs.Held.{state}
use Rattle.sdb_linefile.proofs.mark.insert_mark.Goals as goal

pub returns-clause-ok : goal.returns-clause-ok
returns-clause-ok g c clean = marks (state g.S.Store c.args.conn.now) (state g.S.Store c.execute.new.self) c.execute.result (c.execute.ensures.runs clean)
