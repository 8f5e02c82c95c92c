use Rattle.std.proofs.Common.{◌≡◌, Result, Ok, Err, sym, ◌∙◌}
use Rattle.std.specs.Result.{IsErrAnd}
use Rattle.sdb_oplog.specs.laws.DecidedLogLaws.{rejected_not_out_of_memory}
use Rattle.sdb_oplog.proofs.decided_log.DecidedLog.decide.Goals as goal

err_is : {T E : Type 0} (r : Result T E) (e f : E) → IsErrAnd r (λ y. y ≡ e) → r ≡ Err f → e ≡ f
err_is (Ok x) e f h is = cc
err_is (Err y) e f h is = let s : y ≡ f = cc in sym h ∙ s

pub returns-in_err-check-clause-memory : goal.returns-in_err-check-clause-memory
returns-in_err-check-clause-memory c = λ h.
    let r = c.in_err-check.field-0.0 in
    absurd (rejected_not_out_of_memory c.args.self.now c.args.submission c.args.now r (err_is c.from_residual.result r _ c.from_residual.ensures.1 h) (c.in_err-check.ensures.err c.args.now))
