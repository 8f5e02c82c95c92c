use Rattle.std.proofs.Common.{◌≡◌, ◌⊎◌, inl, inr, true, Result, Ok, Err, option_map, sym, ap, ◌∙◌, arith, length}
use Rattle.std.specs.Option.{is_some}
use Rattle.std.specs.Result.{result_ok, IsErrAnd, IfErr}
use Rattle.sdb_value.specs.View.{value_of}
use Rattle.sdb_oplog.specs.Snap.{apply_content, snap}
use Rattle.sdb_oplog.specs.laws.LogLaws.{out_of_memory_or_refusal}
use Rattle.sdb_oplog.specs.declared.codes.Code.{Code}
use Rattle.sdb_oplog.specs.declared.codes.Code.TheVariants.{E10}
use Rattle.sdb_oplog.proofs.LogGrowth.{no_refusal, snap_taken}
use Rattle.sdb_oplog.proofs.log.Log.replay_from.Goals as goal

wanting : (code : Code) (P : Type 0) → (code ≡ E10) ⊎ P → (P → ⊥) → code ≡ E10
wanting code P (inl e) never = e
wanting code P (inr p) never = absurd (never p)

handed_on : {T : Type 0} (r : Result T Code) (e : Code) → IsErrAnd r (λ y. y ≡ e) → e ≡ E10 → IfErr r (λ code. code ≡ E10)
handed_on (Ok x) e h q = tt
handed_on (Err y) e h q = h ∙ q

pub returns-in_err-apply_to-clause-err : goal.returns-in_err-apply_to-clause-err
returns-in_err-apply_to-clause-err c =
    let es = c.as_slice-entries.result.now in
    let len : length es ≡ length c.args.self.now = ap length (c.as_slice-entries.ensures.value ∙ c.self.view_is) in
    let e = c.index-entries-at.result in
    let m = option_map value_of c.loop-at.replayed in
    let lives : is_some (snap es) ≡ true = rw c.as_slice-entries.ensures.value c.self.invariant.0.every_entry_applies in
    handed_on c.from_residual.result c.in_err-apply_to.field-0.0 c.from_residual.ensures.1
    (wanting c.in_err-apply_to.field-0.0 (apply_content c.content.result.now m ≡ Err c.in_err-apply_to.field-0.0) (out_of_memory_or_refusal _ c.in_err-apply_to.field-0.0 c.in_err-apply_to.ensures.err)
    (λ h. no_refusal es c.loop-at.at e m _ (omega arith) c.index-entries-at.is c.loop-at.invariant lives (ap (λ k. apply_content k m) (sym c.content.ensures) ∙ h)))

pub loop-at-preserved : goal.loop-at-preserved
loop-at-preserved c =
    let es = c.as_slice-entries.result.now in
    let len : length es ≡ length c.args.self.now = ap length (c.as_slice-entries.ensures.value ∙ c.self.view_is) in
    let e = c.index-entries-at.result in
    let m = option_map value_of c.loop-at.replayed in
    snap_taken es c.loop-at.at e m (omega arith) c.index-entries-at.is c.loop-at.invariant ∙ ap result_ok (ap (λ k. apply_content k m) (sym c.content.ensures) ∙ c.in_ok-apply_to.ensures.ok)
