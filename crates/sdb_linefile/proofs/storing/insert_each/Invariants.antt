use Rattle.std.proofs.Common.{◌≡◌, take}
use Rattle.sqlite.specs.State.{HasCleanDisk, KeepsCommit, Survives}
use Rattle.sqlite.specs.Held.{state}
use Rattle.sdb_linefile.specs.LineTable.{Added}
use Rattle.sdb_linefile.specs.Lines.{lines_of}
use Rattle.sdb_linefile.proofs.storing.insert_each.Given as goal

abbrev pub invariant-loop-line : goal.invariant-loop-line
invariant-loop-line g l =
    let first = state g.S.Store l.fn.transaction.conn.now in
    let now = state g.S.Store l.transaction.conn.now in
    record {
      same : l.transaction.conn.ghost_name ≡ l.fn.transaction.conn.ghost_name;
      survives : Survives first now (λ _. ⊥);
      kept : HasCleanDisk now → KeepsCommit first now;
      added : HasCleanDisk now → Added (lines_of (take l.line-index l.lines)) first now;
    }
