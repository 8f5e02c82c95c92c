use Rattle.std.proofs.Common.{arith}
use Rattle.sdb_linefile.proofs.Statements.{creates_file}
use Rattle.sdb_linefile.proofs.line_table.create.Goals as goal

pub returns : goal.returns
returns g c = record {
  clean = λ clean. omega (arith, clean, c.execute.ensures.survives.clean);
  ok = λ clean.
      creates_file g.S.Store c.args.conn.now c.execute.new.self c.execute.result (g.met.S.Store.settled c.execute.new.self.store) c.requires.empty c.requires.autocommit (c.execute.ensures.runs clean);
}
