use Rattle.std.proofs.Common.{◌≡◌, refl, subst}
use Rattle.sdb_oplog.specs.Plain.{PlainSubmission}
use Rattle.sdb_desk.specs.ShardView.{logs_of}
use Rattle.sdb_desk.specs.Machine.{DecidesOrOutOfMemory}
use Rattle.sdb_desk.specs.ReplyView.{plain_reply}
use Rattle.sdb_steps.specs.StateView.{plain_open_attempt}
use Rattle.sdb_steps.proofs.CommitLemmas.{now_out_of_memory, now_decided}
use Rattle.sdb_steps.specs.LookInvariant.{attempt_in}
use Rattle.sdb_steps.proofs.LookLemmas.{looked_now_out_of_memory}
use Rattle.sdb_steps.proofs.session_data.OpenAttempt.commit_now.Goals as goal

pub returns-then-is_out_of_memory-clause-commits : goal.returns-then-is_out_of_memory-clause-commits
returns-then-is_out_of_memory-clause-commits c =
    let t = plain_open_attempt c.args.self in
    let decided : (s : PlainSubmission) → s ≡ t.submission → DecidesOrOutOfMemory (logs_of c.args.shard.now) t.key s c.args.now (plain_reply c.commit_now-reply.result) (logs_of c.commit_now-reply.new.self) → DecidesOrOutOfMemory (logs_of c.args.shard.now) t.key t.submission c.args.now (plain_reply c.commit_now-reply.result) (logs_of c.commit_now-reply.new.self) =
    λ s e h. subst (λ x. DecidesOrOutOfMemory (logs_of c.args.shard.now) t.key x c.args.now (plain_reply c.commit_now-reply.result) (logs_of c.commit_now-reply.new.self)) e h in
    now_out_of_memory c.args.shard.now c.commit_now-reply.new.self t c.args.now (plain_reply c.commit_now-reply.result) c.requires.is_deciding (c.if-is_out_of_memory.ensures.memory refl) (decided c.submission_of.result.now c.submission_of.ensures c.commit_now-reply.ensures.decides) c.commit_now-reply.ensures.others.queues_unchanged

pub returns-clause-commits : goal.returns-clause-commits
returns-clause-commits c =
    let t = plain_open_attempt c.args.self in
    let decided : (s : PlainSubmission) → s ≡ t.submission → DecidesOrOutOfMemory (logs_of c.args.shard.now) t.key s c.args.now (plain_reply c.commit_now-reply.result) (logs_of c.commit_now-reply.new.self) → DecidesOrOutOfMemory (logs_of c.args.shard.now) t.key t.submission c.args.now (plain_reply c.commit_now-reply.result) (logs_of c.commit_now-reply.new.self) =
    λ s e h. subst (λ x. DecidesOrOutOfMemory (logs_of c.args.shard.now) t.key x c.args.now (plain_reply c.commit_now-reply.result) (logs_of c.commit_now-reply.new.self)) e h in
    now_decided c.args.shard.now c.commit_now-reply.new.self t c.args.now (plain_reply c.commit_now-reply.result) c.requires.is_deciding (c.if-is_out_of_memory.ensures.enough refl) (decided c.submission_of.result.now c.submission_of.ensures c.commit_now-reply.ensures.decides) c.commit_now-reply.ensures.others.queues_unchanged

pub returns-then-is_out_of_memory-clause-has_look : goal.returns-then-is_out_of_memory-clause-has_look
returns-then-is_out_of_memory-clause-has_look c =
    looked_now_out_of_memory (logs_of c.args.shard.now) (logs_of c.commit_now-reply.new.self) (plain_open_attempt c.args.self).key (attempt_in c.args.self.phase) c.submission_of.result.now c.args.now (plain_reply c.commit_now-reply.result) (c.if-is_out_of_memory.ensures.memory refl) c.commit_now-reply.ensures.decides c.requires.has_look
