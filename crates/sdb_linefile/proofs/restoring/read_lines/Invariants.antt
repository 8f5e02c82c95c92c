use Rattle.std.proofs.Common.{◌≡◌, false}
use Rattle.sqlite.specs.State.{HasCleanDisk, Survives}
use Rattle.sqlite.specs.Held.{state}
use Rattle.sdb_linefile.proofs.Reading.{HasReadSome}
use Rattle.sdb_linefile.proofs.restoring.read_lines.Given as goal

abbrev pub invariant-rows : goal.invariant-rows
invariant-rows g l =
    let old = state g.S.Store l.fn.conn in
    let now = state g.S.Store l.rows.conn.now in
    (l.rows.conn.ghost_name ≡ l.initial.rows.conn.ghost_name) × (l.rows.conn.now.in_transaction ≡ false) × Survives old now (λ _. ⊥)
    × (HasCleanDisk now → HasReadSome g.S.Store g.K.LineSink.accepts l.fn.conn l.rows.conn.now l.fn.sink l.sink l.count)
    × g.K.LineSink.holds l.sink
