-- The views of steps and answers.
use Rattle.std.specs.Prelude.{ℕ, Result, Err, option_map, string_bytes}
use Rattle.sdb_value.specs.View.{value_of}
use Rattle.sdb_oplog.specs.declared.codes.Code.{Code}
use Rattle.sdb_oplog.specs.declared.codes.Code.TheVariants.{E10, E11}
use Rattle.sdb_oplog.specs.Keys.{plain_key}
use Rattle.sdb_desk.specs.Machine.{PlainFetchResult}
use Rattle.sdb_desk.specs.View.{fetch_result_view}
use Rattle.sdb_desk.specs.ReplyView.{plain_reply}
use Rattle.sdb_desk.specs.declared.shard.FetchResult.{FetchResult}
use Rattle.sdb_steps.specs.OneStep.{decided, fetched, snapshot_fetched, moment_fetched, subscribed, taken}
use Rattle.sdb_steps.specs.Picks as plain
use Rattle.sdb_steps.specs.declared.step.Step.{Step}
use Rattle.sdb_steps.specs.declared.step.Step.TheVariants.{Begin, Work, Commit, Fetch, Snapshot, SnapshotAtTime, Subscribe, Take, Unsubscribe, Forget}
use Rattle.sdb_steps.specs.declared.step.StepAnswer.{StepAnswer}
use Rattle.sdb_steps.specs.declared.step.StepAnswer.TheVariants.{Began, Worked, Moved, Decided, Fetched as FetchedAnswer, SnapshotFetched, MomentFetched, Subscribed, Taken, Unsubscribed, Forgotten, Idle, OutOfMemory}

abbrev pub plain_session_step : Step → plain.PlainSessionStep
plain_session_step (Begin n k src seq v content) =
    record { session = n.number; act = plain.begin (plain_key k) (string_bytes src) seq v content }
plain_session_step (Work n) = record { session = n.number; act = plain.work }
plain_session_step (Commit n now) = record { session = n.number; act = plain.commit now }
plain_session_step (Fetch n k) = record { session = n.number; act = plain.fetch (plain_key k) }
plain_session_step (Snapshot n k v) = record { session = n.number; act = plain.snapshot (plain_key k) v }
plain_session_step (SnapshotAtTime n k t) = record { session = n.number; act = plain.snapshot_at_time (plain_key k) t }
plain_session_step (Subscribe n k v) = record { session = n.number; act = plain.subscribe (plain_key k) v }
plain_session_step (Take n k max) = record { session = n.number; act = plain.take (plain_key k) max }
plain_session_step (Unsubscribe n k) = record { session = n.number; act = plain.unsubscribe (plain_key k) }
plain_session_step (Forget n k) = record { session = n.number; act = plain.forget (plain_key k) }

abbrev pub plain_fetched : FetchResult → PlainFetchResult
plain_fetched f = record { version = f.version; snapshot = option_map value_of f.snapshot }

-- for a subscribe, E11 is a notice and no reply
abbrev pub plain_start : Result ℕ Code → plain.PlainStepAnswer
plain_start (Err E11) = plain.notice_answer plain.full
plain_start r = plain.reply_answer (subscribed r)

-- the answer to a subscribe that the shard refuses
abbrev pub start_refusal_answer : Code → plain.PlainStepAnswer
start_refusal_answer E10 = plain.out_of_memory
start_refusal_answer code = plain_start (Err code)

-- the answer to a snapshot that the shard refuses
abbrev pub snapshot_refusal_answer : Code → plain.PlainStepAnswer
snapshot_refusal_answer E10 = plain.out_of_memory
snapshot_refusal_answer code = plain.reply_answer (snapshot_fetched (Err code))

abbrev pub plain_step_answer : StepAnswer → plain.PlainStepAnswer
plain_step_answer Began = plain.notice_answer plain.began
plain_step_answer Worked = plain.notice_answer plain.worked
plain_step_answer Moved = plain.notice_answer plain.moved
plain_step_answer (Decided r) = plain.reply_answer (decided (plain_reply r))
plain_step_answer (FetchedAnswer f) = plain.reply_answer (fetched (plain_fetched f))
plain_step_answer (SnapshotFetched r) = plain.reply_answer (snapshot_fetched (fetch_result_view r))
plain_step_answer (MomentFetched f) = plain.reply_answer (moment_fetched (plain_fetched f))
plain_step_answer (Subscribed r) = plain_start r
plain_step_answer (Taken es) = plain.reply_answer (taken es.items)
plain_step_answer Unsubscribed = plain.notice_answer plain.unsubscribed
plain_step_answer Forgotten = plain.notice_answer plain.forgotten
plain_step_answer Idle = plain.notice_answer plain.idle
plain_step_answer OutOfMemory = plain.out_of_memory
