use Rattle.std.proofs.Common.{◌≡◌, List, IfErr, ap, ◌∙◌, subst}
use Rattle.sdb_oplog.specs.DecidedLog.{IsRejectedAs}
use Rattle.sdb_oplog.specs.Keys.{plain_key}
use Rattle.sdb_oplog.specs.Plain.{PlainEntry}
use Rattle.sdb_desk.specs.ShardView.{logs_of}
use Rattle.sdb_desk.proofs.shard.Shard.check.Goals as goal

pub returns-in-Some-clause-err : goal.returns-in-Some-clause-err
returns-in-Some-clause-err c =
    let same : c.decided.result.now ≡ logs_of c.args.self.now (plain_key c.args.key.now) = c.decided.ensures ∙ ap (λ d. d.log) c.in-Some.ensures in
    λ t. subst (λ (l : List PlainEntry). IfErr c.check.result (IsRejectedAs l c.args.submission.now t)) same (c.check.ensures.err t)

pub returns-in-None-clause-err : goal.returns-in-None-clause-err
returns-in-None-clause-err c =
    let same : c.new.result ≡ logs_of c.args.self.now (plain_key c.args.key.now) = c.new.ensures ∙ ap (λ d. d.log) c.in-None.ensures in
    λ t. subst (λ (l : List PlainEntry). IfErr c.check-in-None-2.result (IsRejectedAs l c.args.submission.now t)) same (c.check-in-None-2.ensures.err t)
