use Rattle.std.proofs.Common.{◌≡◌, Err, sym, ap, ◌∙◌}
use Rattle.sdb_oplog.specs.declared.codes.Code.TheVariants.{E10}
use Rattle.sdb_oplog.specs.laws.LogLaws.{rebase_not_out_of_memory}
use Rattle.sdb_desk.specs.View.{rebased_content_of}
use Rattle.sdb_desk.proofs.work.apply_rebased.Goals as goal

pub returns-in-Refused-clause-memory : goal.returns-in-Refused-clause-memory
returns-in-Refused-clause-memory c =
    λ h. let e : c.in-Refused.code ≡ E10 = cc in
    absurd (rebase_not_out_of_memory c.args.attempt.now.submission.content c.args.attempt.now.look.missed.items
    (sym c.requires ∙ ap (rebased_content_of c.args.attempt.now.submission.content) c.in-Refused.is ∙ ap Err e))
