use Rattle.std.proofs.Common.{◌≡◌, true, Err, option_map, refl, ap}
use Rattle.sdb_value.specs.View.{value_of}
use Rattle.sdb_oplog.specs.Keys.{plain_key}
use Rattle.sdb_oplog.specs.Decide.{missed_entries}
use Rattle.sdb_oplog.specs.DecidedLog.{CanStore}
use Rattle.sdb_oplog.specs.Rebase.{rebase_allocates}
use Rattle.sdb_oplog.specs.laws.DecidedLogLaws.{will_store_allocates}
use Rattle.sdb_oplog.specs.laws.LogLaws.{rebase_allocates_decide}
use Rattle.sdb_desk.specs.ShardView.{log_at, state_of}
use Rattle.sdb_desk.proofs.RefusalLemmas.{decision_of_rejection, decision_of_code, decision_of_failure}
use Rattle.sdb_desk.proofs.shard.Shard.reject_now.Goals as goal

pub returns-in-Err : goal.returns-in-Err
returns-in-Err c = λ now.
    decision_of_rejection (state_of c.args.self.now) (plain_key c.args.key.now) now c.in-Err.rejection c.args.submission.now
    (c.in-Err.ensures.err now)

pub returns-then-transforms_edits : goal.returns-then-transforms_edits
returns-then-transforms_edits c = λ now.
    let log = log_at c.args.self.now c.args.key.now in
    let s = c.args.submission.now in
    let new : CanStore log s = c.in_default.ensures.ok in
    let given : rebase_allocates c.content.result.now c.missed_entries.result.now ≡ true = c.transforms_edits.ensures (rw c.if-transforms_edits.true refl) in
    let takes : rebase_allocates s.content (missed_entries log s) ≡ true = rw (c.content.ensures, c.missed_entries.ensures) at given in
    decision_of_failure (state_of c.args.self.now) (plain_key c.args.key.now) now c.from.result s c.from.ensures
    (rebase_allocates_decide log s new.is_new new.has_room new.version_reached takes)

pub returns-in-Err-rebase : goal.returns-in-Err-rebase
returns-in-Err-rebase c = λ now.
    let e = c.in-Err-rebase in
    decision_of_code (state_of c.args.self.now) (plain_key c.args.key.now) now c.from-in-Err-rebase.result c.args.submission.now e.code
    c.from-in-Err-rebase.ensures (e.ensures.err now) (λ is. e.ensures.memory (ap Err is))

pub returns : goal.returns
returns c = λ now.
    let rebased = c.in_default-rebase.field-0 in
    decision_of_failure (state_of c.args.self.now) (plain_key c.args.key.now) now c.from-2.result c.args.submission.now
    c.from-2.ensures
    (will_store_allocates (log_at c.args.self.now c.args.key.now) c.args.submission.now rebased.content
    (option_map value_of rebased.document) c.in_default-rebase.ensures.ok)
