use Rattle.std.proofs.Common.{arith}
use Rattle.sqlite.specs.State.{HasCleanDisk}
use Rattle.sqlite.specs.Held.{state}
use Rattle.sdb_linefile.proofs.Adding.{puts, keeps_commit}
use Rattle.sdb_linefile.proofs.Statements.{insert_text}
use Rattle.sdb_linefile.proofs.storing.insert.Goals as goal

pub returns-clause-added : goal.returns-clause-added
returns-clause-added g c clean =
    let early : HasCleanDisk (state g.S.Store c.args.transaction.now.conn.now) = omega (arith, c.execute.ensures.survives.clean) in
    puts (state g.S.Store c.args.transaction.now.conn.now) (state g.S.Store c.execute.new.self.conn.now) c.args.line.now c.execute.result
    (rw c.params-to_sql.ensures at (c.execute.ensures.runs clean (c.requires.inside early)))

pub returns-clause-kept : goal.returns-clause-kept
returns-clause-kept g c clean =
    let early : HasCleanDisk (state g.S.Store c.args.transaction.now.conn.now) = omega (arith, c.execute.ensures.survives.clean) in
    keeps_commit insert_text _ (state g.S.Store c.args.transaction.now.conn.now) (state g.S.Store c.execute.new.self.conn.now) c.execute.result (c.execute.ensures.runs clean (c.requires.inside early))
