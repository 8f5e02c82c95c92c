use Rattle.std.proofs.Common.{◌≡◌, ℕ, Option, Some, None, arith, refl, Ok, Err, take, ap, sym, ◌∙◌, subst, length-take}
use Rattle.std.proofs.lemmas.Result.{err_from_is_err_and}
use Rattle.std.specs.Prelude.{IfErr, IfSome}
use Rattle.std.proofs.Common.{List}
use Rattle.sdb_dump.specs.CheckerModel.{CheckerAtStage, AcceptedHasAll}
use Rattle.sdb_dump.specs.LineSplit.{check_text}
use Rattle.sdb_dump.specs.DumpText.{PlainLine}
use Rattle.sdb_dump.specs.CheckStages.{PlainStage, stage_result}
use Rattle.sdb_dump.specs.Faults.{IsDumpFault}
use Rattle.sdb_dump.specs.declared.checker.DumpFault.TheVariants.{ReadFailed}
use Rattle.sdb_dump.proofs.CheckProgress.{check_run_start, check_run_step, check_run_wrong, check_run_accepted, check_run_refused}
use Rattle.sdb_dump.proofs.HoldsLemmas.{if_ok_then, if_err_then}
use Rattle.sdb_dump.proofs.check.check_dump.Goals as goal

pub loop-turn-init : goal.loop-turn-init
loop-turn-init g c = record {
  room = omega arith;
  few = omega (arith, c.new-checker.ensures.none);
  calls = omega arith;
  at_most = omega arith;
  reads = refl;
  went = check_run_start (g.R.Source.remaining_input c.args.reader.now) c.new-checker.result c.new-partial.result.items c.new-checker.ensures.checks c.new-partial.ensures.items;
}

pub loop-turn-preserved : goal.loop-turn-preserved
loop-turn-preserved g c =
    let input = take c.in-Ok.n c.read_into.new.buf in
    record {
      room = omega (arith, c.loop-turn.invariant.room, c.read_into.auto.buf);
      few = omega (arith, c.in_ok-check_chunk-in-Ok.ensures.bound, c.loop-turn.invariant.few, c.loop-turn.invariant.room, c.read_into.auto.buf, length-take c.in-Ok.n c.read_into.new.buf);
      calls = omega (arith, c.loop-turn.invariant.calls, c.read_into.ensures.calls);
      at_most = omega (arith, c.loop-turn.invariant.at_most, c.read_into.ensures.calls);
      reads = c.in-Ok.ensures.failures ∙ c.loop-turn.invariant.reads;
      went = check_run_step _ input c.loop-turn.invariant.went c.in-Ok.ensures.bytes.0 c.in_ok-check_chunk-in-Ok.ensures.taken;
    }

pub returns-in-Ok-eq0-clause-accepted : goal.returns-in-Ok-eq0-clause-accepted
returns-in-Ok-eq0-clause-accepted g c =
    let bytes = c.in-Ok-eq0.ensures.bytes in
    let nothing = ap (λ n. take n c.read_into.new.buf) c.in-Ok-eq0.field-0-test in
    let ends = bytes.1 c.in-Ok-eq0.field-0-test (omega (arith, c.loop-turn.invariant.room, c.read_into.auto.buf)) in
    if_ok_then c.finish.result (λ d h. check_run_accepted _ _ nothing c.loop-turn.invariant.went bytes.0 ends d
    (subst (λ l. (s : PlainStage) → CheckerAtStage c.loop-turn.checker s → (xs : List PlainLine) × (stage_result s l ≡ Ok xs) × AcceptedHasAll d xs) c.as_slice.ensures.value h)) c.finish.ensures.accepted

pub returns-in-Ok-eq0-clause-fault : goal.returns-in-Ok-eq0-clause-fault
returns-in-Ok-eq0-clause-fault g c =
    let bytes = c.in-Ok-eq0.ensures.bytes in
    let nothing = ap (λ n. take n c.read_into.new.buf) c.in-Ok-eq0.field-0-test in
    let ends = bytes.1 c.in-Ok-eq0.field-0-test (omega (arith, c.loop-turn.invariant.room, c.read_into.auto.buf)) in
    if_err_then c.finish.result (λ f h. check_run_refused _ _ nothing c.loop-turn.invariant.went bytes.0 ends f
    (subst (λ l. (s : PlainStage) → CheckerAtStage c.loop-turn.checker s → IsDumpFault f (stage_result s l)) c.as_slice.ensures.value h)) c.finish.ensures.fault

pub returns-in_err-check_chunk-in-Ok-clause-fault : goal.returns-in_err-check_chunk-in-Ok-clause-fault
returns-in_err-check_chunk-in-Ok-clause-fault g c =
    let f = c.in_err-check_chunk-in-Ok.field-0.0 in
    let p = err_from_is_err_and c.from_residual-in_err-check_chunk-in-Ok.result c.from_residual-in_err-check_chunk-in-Ok.ensures.1 in
    subst (λ o. IfErr o (λ f. IfSome (g.R.Source.remaining_input c.args.reader.now) (λ text. IsDumpFault f (check_text text)))) (sym (p.1 ∙ ap Err p.2))
    (check_run_wrong _ (take c.in-Ok.n c.read_into.new.buf) f c.loop-turn.invariant.went c.in-Ok.ensures.bytes.0 c.in_err-check_chunk-in-Ok.ensures.fault)

unread : (o : Option (List ℕ)) → IfSome o (λ text. IsDumpFault ReadFailed (check_text text))
unread None = tt
unread (Some text) = tt

pub returns-clause-fault : goal.returns-clause-fault
returns-clause-fault g c = unread (g.R.Source.remaining_input c.args.reader.now)
