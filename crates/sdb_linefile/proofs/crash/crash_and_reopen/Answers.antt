use Rattle.std.proofs.Common.{inl, inr}
use Rattle.sqlite.specs.Held.{state}
use Rattle.sdb_linefile.specs.LineFile.{LeavesEither}
use Rattle.sdb_linefile.proofs.crash.crash_and_reopen.Goals as goal

pub returns-in-Ok : goal.returns-in-Ok
returns-in-Ok g c clean these those leaves =
    let adopted = c.in-Ok.ensures.ok clean in
    let left : LeavesEither these those (state g.S.Store c.into_connection.result) = rw c.into_connection.ensures leaves in
    elim (c.in_ok-conn.ensures.left adopted.clean these those left) [
      | inl stores ↦ inl (adopted.lines these stores)
      | inr stores ↦ inr (adopted.lines those stores)
    ]
