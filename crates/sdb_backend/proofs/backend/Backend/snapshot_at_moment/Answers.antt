use Rattle.std.proofs.Common.{◌≡◌, ◌<◌, length, option_map}
use Rattle.std.proofs.lemmas.Result.{err_from_is_err_and}
use Rattle.sdb_value.specs.View.{value_of}
use Rattle.sdb_oplog.specs.Keys.{plain_key}
use Rattle.sdb_oplog.specs.Moments.{version_at}
use Rattle.sdb_desk.specs.Reads.{IsReplayBaseUpTo}
use Rattle.sdb_desk.specs.ShardView.{logs_of}
use Rattle.sdb_desk.specs.View.{plain_replay_base}
use Rattle.sdb_backend.proofs.ReplayPartLemmas.{log_after_run, below_current, moment_answered, moment_failed}
use Rattle.sdb_backend.proofs.StepLemmas.{run_at_same_history}
use Rattle.sdb_backend.proofs.backend.Backend.snapshot_at_moment.Goals as goal

pub replay-requires-clause-base : goal.replay-requires-clause-base
replay-requires-clause-base g c =
    let k = plain_key c.args.key.now in
    let d = c.in_ok-version.ensures.ran in
    let l = plain_replay_base c.in_ok-version.field-0.base in
    (d.next, d.seen_after, log_after_run k c.args.pass.now c.run.new.pass d (λ log. IsReplayBaseUpTo log c.in_ok-version.field-0.version 8192 l) d.ran.1 d.next d.seen_after d.ran.0.1)

pub returns-in_err-snapshot-clause-answered : goal.returns-in_err-snapshot-clause-answered
returns-in_err-snapshot-clause-answered g c =
    let k = plain_key c.args.key.now in
    let t = c.args.moment in
    let d = c.in_ok-version.ensures.ran in
    let v = c.in_ok-version.field-0.version in
    let w = c.in_ok-version.field-0.base.version in
    let below = below_current k v (length (logs_of d.history.shard k)) w d.ran.0.1.within d.ran.0.2 c.if-base-version.false in
    let is = log_after_run k c.args.pass.now c.run.new.pass d (λ l. v ≡ version_at l t) d.ran.1 d.next d.seen_after d.ran.0.0 in
    let less = log_after_run k c.args.pass.now c.run.new.pass d (λ l. v < length l) d.ran.1 d.next d.seen_after below in
    let failed = moment_failed k c.args.pass.now c.run.new.pass c.replay.new.pass (run_at_same_history d d.ran.1) v t d.next d.seen_after is less c.in_err-snapshot.ensures.read w d.ran.0.1.before c.if-base-version.false in
    let r = err_from_is_err_and c.from_residual-in_err-snapshot.result c.from_residual-in_err-snapshot.ensures.1 in
    let code = c.in_err-snapshot.ensures.err in
    rw (r.1, r.2, code) failed

pub returns-clause-answered : goal.returns-clause-answered
returns-clause-answered g c =
    let k = plain_key c.args.key.now in
    let t = c.args.moment in
    let d = c.in_ok-version.ensures.ran in
    let v = c.in_ok-version.field-0.version in
    let w = c.in_ok-version.field-0.base.version in
    let below = below_current k v (length (logs_of d.history.shard k)) w d.ran.0.1.within d.ran.0.2 c.if-base-version.false in
    let is = log_after_run k c.args.pass.now c.run.new.pass d (λ l. v ≡ version_at l t) d.ran.1 d.next d.seen_after d.ran.0.0 in
    let less = log_after_run k c.args.pass.now c.run.new.pass d (λ l. v < length l) d.ran.1 d.next d.seen_after below in
    moment_answered k c.args.pass.now c.run.new.pass c.replay.new.pass (run_at_same_history d d.ran.1) v t d.next d.seen_after is less c.in_ok-snapshot.ensures.read
    (option_map value_of c.in_ok-snapshot.snapshot) c.in_ok-snapshot.ensures.ok
