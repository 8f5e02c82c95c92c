use Rattle.std.proofs.Common.{option_map}
use Rattle.sdb_value.specs.View.{value_of}
use Rattle.sdb_oplog.specs.Keys.{plain_key}
use Rattle.sdb_oplog.specs.laws.DecidedLogLaws.{rejected_not_out_of_memory, will_store_allocates}
use Rattle.sdb_desk.specs.ShardView.{logs_of}
use Rattle.sdb_desk.proofs.LookLemmas.{err_is_from}
use Rattle.sdb_desk.proofs.shard.Shard.append_now.Goals as goal

pub returns-in_err-check-clause-memory : goal.returns-in_err-check-clause-memory
returns-in_err-check-clause-memory c = λ h.
    let r = c.in_err-check.field-0.0 in
    absurd (rejected_not_out_of_memory (logs_of c.args.self.now (plain_key c.args.key.now)) c.args.submission.now c.args.now r (err_is_from c.from_residual.result r _ c.from_residual.ensures.1 h) (c.in_err-check.ensures.err c.args.now))

pub returns-in_err-missed-clause-memory : goal.returns-in_err-missed-clause-memory
returns-in_err-missed-clause-memory c = λ _.
    let rebased = c.in_ok-rebased.rebased in
    will_store_allocates (logs_of c.args.self.now (plain_key c.args.key.now)) c.args.submission.now rebased.content (option_map value_of rebased.document) c.in_ok-rebased.ensures.ok
