use Rattle.std.proofs.Common.{◌+◌, ◌-◌, ◌++◌, sym, ap, ◌∙◌, subst, arith, Err, length, take, drop, length-drop}
use Rattle.std.proofs.lemmas.List.{length-take}
use Rattle.std.proofs.lemmas.Result.{err_from_is_err_and}
use Rattle.std.specs.Prelude.{IfErr}
use Rattle.sdb_dump.specs.CheckerModel.{CheckerAtStage}
use Rattle.sdb_dump.specs.Faults.{IsDumpFault}
use Rattle.sdb_dump.specs.CheckStages.{PlainStage, stage_after_line}
use Rattle.sdb_dump.specs.CheckText.{check_result_from}
use Rattle.sdb_dump.proofs.CheckProgress.{answer_plain, answer_line, answer_wrong}
use Rattle.sdb_dump.proofs.check.check_chunk.Goals as goal

pub returns-in_err-check_line-clause-fault : goal.returns-in_err-check_line-clause-fault
returns-in_err-check_line-clause-fault c =
    let input = c.loop-at.rest.now in
    let partial = c.loop-at.partial.items in
    let f = c.in_err-check_line.field-0.0 in
    let p = err_from_is_err_and c.from_residual.result c.from_residual.ensures.1 in
    subst (λ o. IfErr o (λ f. (s : PlainStage) → CheckerAtStage c.args.checker.now s → (more : _) → IsDumpFault f (check_result_from s c.args.partial.now.items (c.args.input.now ++ more)))) (sym (p.1 ∙ ap Err p.2))
    (λ s h more.
    let t = c.loop-at.invariant.taken s h in
    subst (IsDumpFault f) (sym (t.2 more)) (answer_wrong input partial c.in-Some.at c.in-Some.ensures.found.1 c.in-Some.ensures.found.2 f t.0 more (c.in_err-check_line.ensures.fault t.0 t.1)))

pub loop-at-preserved : goal.loop-at-preserved
loop-at-preserved c =
    let at = c.in-Some.at in
    let rest = c.loop-at.rest.now in
    let partial = c.loop-at.partial.items in
    record {
      few = omega (arith, c.loop-at.invariant.few, c.in_ok-check_line.ensures.bound, c.in-Some.ensures.found.0, length-take (length rest - (at + 1)) (drop (at + 1) rest), length-drop (at + 1) rest);
      taken = λ s h.
          let t = c.loop-at.invariant.taken s h in (
            stage_after_line t.0 (partial ++ take at rest),
            c.in_ok-check_line.ensures.taken t.0 t.1,
            λ more. t.2 more ∙ answer_line rest partial at c.in-Some.ensures.found.1 c.in-Some.ensures.found.2 t.0 c.check_line.new.partial.items more c.in_ok-check_line.ensures.partial_line,
          );
    }

pub returns-clause-taken : goal.returns-clause-taken
returns-clause-taken c =
    λ s h.
    let t = c.loop-at.invariant.taken s h in (
      t.0,
      t.1,
      λ more. t.2 more ∙ answer_plain t.0 c.loop-at.rest.now more c.loop-at.partial.items c.in_default.ensures.none
          ∙ ap (λ p. check_result_from t.0 p more) (sym c.in_ok-extend_from_slice.ensures.items),
    )
