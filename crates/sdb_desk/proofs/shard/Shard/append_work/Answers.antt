use Rattle.std.proofs.Common.{◌≡◌, Err, ap, ◌∙◌}
use Rattle.sdb_oplog.specs.declared.codes.Code.{Code}
use Rattle.sdb_oplog.specs.declared.codes.Code.TheVariants.{E10}
use Rattle.sdb_oplog.specs.declared.decided_log.Rejection.TheVariants.{Refused}
use Rattle.sdb_oplog.specs.Keys.{plain_key}
use Rattle.sdb_oplog.specs.laws.DecidedLogLaws.{rejected_not_out_of_memory}
use Rattle.sdb_oplog.specs.laws.LogLaws.{rebase_not_out_of_memory}
use Rattle.sdb_desk.specs.ShardView.{logs_of}
use Rattle.sdb_desk.proofs.LookLemmas.{err_is_from}
use Rattle.sdb_desk.proofs.shard.Shard.append_work.Goals as goal

pub returns-in_err-check-clause-memory : goal.returns-in_err-check-clause-memory
returns-in_err-check-clause-memory c = λ h.
    let r = c.in_err-check.field-0.0 in
    absurd (rejected_not_out_of_memory (logs_of c.args.self.now (plain_key c.args.key.now)) c.submission.result.now c.args.now r (err_is_from c.from_residual.result r _ c.from_residual.ensures.1 h) (c.in_err-check.ensures.err c.args.now))

pub returns-in_err-check-clause-found : goal.returns-in_err-check-clause-found
returns-in_err-check-clause-found c = λ h f.
    let r = c.in_err-check.field-0.0 in
    rejected_not_out_of_memory (logs_of c.args.self.now (plain_key c.args.key.now)) c.submission.result.now c.args.now r (err_is_from c.from_residual.result r _ c.from_residual.ensures.1 h) (c.in_err-check.ensures.err c.args.now)

code_is : (code : Code) → Refused code ≡ Refused E10 → code ≡ E10
code_is code h = cc

pub returns-in_err-content-clause-memory : goal.returns-in_err-content-clause-memory
returns-in_err-content-clause-memory c = λ h.
    let code = c.in_err-content.field-0.0 in
    let r = c.from_residual-in_err-content in
    let w = c.args.work.now in
    absurd (rebase_not_out_of_memory w.submission.content w.look.missed (c.in_err-content.ensures.err ∙ ap Err (code_is code (err_is_from r.result (Refused code) _ r.ensures.1 h))))

pub returns-in_err-content-clause-found : goal.returns-in_err-content-clause-found
returns-in_err-content-clause-found c = λ h f.
    let code = c.in_err-content.field-0.0 in
    let r = c.from_residual-in_err-content in
    let w = c.args.work.now in
    rebase_not_out_of_memory w.submission.content w.look.missed (c.in_err-content.ensures.err ∙ ap Err (code_is code (err_is_from r.result (Refused code) _ r.ensures.1 h)))
