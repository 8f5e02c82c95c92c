use Rattle.std.proofs.Common.{◌+◌, false, refl, ap, ◌∙◌, subst}
use Rattle.sdb_oplog.specs.Keys.{plain_key}
use Rattle.sdb_desk.specs.ShardView.{logs_of}
use Rattle.sdb_steps.specs.LookInvariant.{attempt_in}
use Rattle.sdb_desk.specs.Machine.{PlainAttempt, decided, WorkAfterCommit}
use Rattle.sdb_desk.specs.ReplyView.{plain_reply}
use Rattle.sdb_desk.specs.View.{plain_look}
use Rattle.sdb_steps.specs.Picks as plain
use Rattle.sdb_steps.proofs.CommitLemmas.{attempt_of, tries_out_of_memory, tries_decided, tries_moved}
use Rattle.sdb_steps.proofs.LookLemmas.{looked_out_of_memory, looked_moved}
use Rattle.sdb_steps.proofs.attempt.commit_work.Goals as goal

pub returns-then-is_out_of_memory-clause-commits : goal.returns-then-is_out_of_memory-clause-commits
returns-then-is_out_of_memory-clause-commits c =
    let k = plain_key c.args.key in
    let said = c.in-Decided.ensures in
    let wanting = c.if-is_out_of_memory.ensures.memory refl in
    tries_out_of_memory c.args.shard.now c.commit.new.self k c.args.work c.args.now (plain_reply c.in-Decided.reply) c.args.tries c.args.is_worked _ c.requires.bound wanting said.commits.commits said.commits.others.queues_unchanged
    (c.restore_attempt-phase.ensures.plain k c.args.tries ∙ ap (λ (w : PlainAttempt). attempt_of k w c.args.tries c.args.is_worked) (subst (λ r. WorkAfterCommit (decided r) c.args.work c.commit.new.work) wanting said.work))

pub returns-else-is_out_of_memory-clause-commits : goal.returns-else-is_out_of_memory-clause-commits
returns-else-is_out_of_memory-clause-commits c =
    let k = plain_key c.args.key in
    let said = c.in-Decided.ensures in
    tries_decided c.args.shard.now c.commit.new.self k c.args.work c.args.now (plain_reply c.in-Decided.reply) c.args.tries c.args.is_worked (c.if-is_out_of_memory.ensures.enough refl) said.commits.commits said.commits.others.queues_unchanged

pub returns-in-Moved-clause-commits : goal.returns-in-Moved-clause-commits
returns-in-Moved-clause-commits c =
    let k = plain_key c.args.key in
    let said = c.in-Moved.ensures in
    let n = c.args.tries + 1 in
    let v = c.in-Moved.look.version in
    let again : PlainAttempt → plain.PlainOpenAttempt = λ w. record { key = k; submission = w.submission; looked_version = v; tries = n; is_worked = false } in
    tries_moved c.args.shard.now c.commit.new.self k c.args.work c.args.now (plain_look c.in-Moved.look) c.args.tries c.args.is_worked _ c.requires.bound said.commits.commits said.commits.others.queues_unchanged (c.look_again-phase.ensures.plain k n ∙ ap again said.work)

pub returns-then-is_out_of_memory-clause-looked : goal.returns-then-is_out_of_memory-clause-looked
returns-then-is_out_of_memory-clause-looked c =
    let k = plain_key c.args.key in
    let said = c.in-Decided.ensures in
    let r = plain_reply c.in-Decided.reply in
    let wanting = c.if-is_out_of_memory.ensures.memory refl in
    looked_out_of_memory (logs_of c.args.shard.now) (logs_of c.commit.new.self) k (attempt_in c.restore_attempt-phase.result) c.args.work c.args.now r wanting said.commits.commits
    (c.restore_attempt-phase.ensures.attempt ∙ subst (λ r. WorkAfterCommit (decided r) c.args.work c.commit.new.work) wanting said.work) c.requires.looked

pub returns-in-Moved-clause-looked : goal.returns-in-Moved-clause-looked
returns-in-Moved-clause-looked c =
    let k = plain_key c.args.key in
    let said = c.in-Moved.ensures in
    let l = plain_look c.in-Moved.look in
    let again : PlainAttempt → PlainAttempt = λ w. record { submission = w.submission; look = l } in
    looked_moved (logs_of c.args.shard.now) (logs_of c.commit.new.self) k (attempt_in c.look_again-phase.result) c.args.work c.args.now l said.commits.commits (c.look_again-phase.ensures.attempt ∙ ap again said.work)
