-- The snapshot caches after a step.
use Rattle.std.specs.Prelude.{◌≡◌, Result, Ok, Err}
use Rattle.sdb_oplog.specs.Keys.{Logs}
use Rattle.sdb_oplog.specs.declared.codes.Code.{Code}
use Rattle.sdb_oplog.specs.declared.codes.Code.TheVariants.{E10}
use Rattle.sdb_desk.specs.Machine.{PlainFetchResult}
use Rattle.sdb_desk.specs.ShardState.{CachesByKey}
use Rattle.sdb_submit.specs.Calls as call
use Rattle.sdb_submit.specs.Calls.{CachesAfterCall}
use Rattle.sdb_steps.specs.OneStep.{snapshot_fetched, moment_fetched}
use Rattle.sdb_steps.specs.Picks.{StepKind, begin, work, commit, fetch, snapshot, snapshot_at_time, subscribe, take, unsubscribe, forget, PlainStepAnswer, reply_answer}

-- the result of a read at a version or at a moment, by the answer to its step; without a reply it is E10
abbrev pub read_result : PlainStepAnswer → Result PlainFetchResult Code
read_result (reply_answer (snapshot_fetched r)) = r
read_result (reply_answer (moment_fetched f)) = Ok f
read_result answer = Err E10

-- the caches after an act with this answer, and with these logs before it; only a read at a version and `forget` change
-- one
abbrev pub CachesAfterAct : Logs → StepKind → PlainStepAnswer → CachesByKey → CachesByKey → Type 0
CachesAfterAct logs (begin k src seq v content) answer old new = new ≡ old
CachesAfterAct logs work answer old new = new ≡ old
CachesAfterAct logs (commit now) answer old new = new ≡ old
CachesAfterAct logs (fetch k) answer old new = new ≡ old
CachesAfterAct logs (snapshot k v) answer old new = CachesAfterCall k logs (call.snapshot v) (read_result answer) old new
CachesAfterAct logs (snapshot_at_time k t) answer old new = CachesAfterCall k logs (call.snapshot_at_time t) (read_result answer) old new
CachesAfterAct logs (subscribe k v) answer old new = new ≡ old
CachesAfterAct logs (take k max) answer old new = new ≡ old
CachesAfterAct logs (unsubscribe k) answer old new = new ≡ old
CachesAfterAct logs (forget k) answer old new = CachesAfterCall k logs call.forget tt old new
