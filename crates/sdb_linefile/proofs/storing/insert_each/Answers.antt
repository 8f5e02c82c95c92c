use Rattle.std.proofs.Common.{◌∙◌, arith, subst}
use Rattle.sqlite.specs.State.{HasCleanDisk}
use Rattle.sqlite.specs.Held.{state}
use Rattle.sqlite.proofs.StateLemmas.{survives_then}
use Rattle.sdb_linefile.specs.LineTable.{Added}
use Rattle.sdb_linefile.proofs.Adding.{keeps_then, added_then, front_more}
use Rattle.sdb_linefile.proofs.storing.insert_each.Goals as goal

pub loop-line-preserved : goal.loop-line-preserved
loop-line-preserved g c =
    let first = state g.S.Store c.args.transaction.now.conn.now in
    let mid = state g.S.Store c.loop-line.transaction.conn.now in
    let now = state g.S.Store c.insert.new.transaction.conn.now in
    let was = c.loop-line.invariant in
    let early : HasCleanDisk now → HasCleanDisk mid = λ clean. omega (arith, c.insert.ensures.survives.clean, clean) in
    record {
      same = c.insert.ensures.same_reference ∙ was.same;
      survives = survives_then first mid now _ _ (λ _. ⊥) (λ _ db none. none) (λ _ db none. none) was.survives c.insert.ensures.survives;
      kept = λ clean. keeps_then first mid now (was.kept (early clean)) (c.insert.ensures.kept clean);
      added = λ clean.
          subst (λ xs. Added xs first now)
          (front_more c.args.lines.now c.loop-line.line-index c.line-item.result c.as_slice.result.now c.loop-line-test.true c.line-item.is c.as_slice.ensures.value)
          (added_then _ _ first mid now (was.added (early clean)) (c.in_ok-insert.ensures.added clean));
    }
