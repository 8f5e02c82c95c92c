use Rattle.std.proofs.Common.{option_map}
use Rattle.std.proofs.lemmas.Result.{err_from_is_err_and}
use Rattle.sdb_value.specs.View.{value_of}
use Rattle.sdb_oplog.specs.Keys.{plain_key}
use Rattle.sdb_desk.specs.Reads.{IsReplayBaseUpTo}
use Rattle.sdb_desk.specs.View.{plain_replay_base}
use Rattle.sdb_backend.specs.ReplaysInParts.{IsReplayBaseSeenBy}
use Rattle.sdb_backend.proofs.ReplayPartLemmas.{log_after_run, read_answered, read_failed}
use Rattle.sdb_backend.proofs.StepLemmas.{run_at_same_history}
use Rattle.sdb_backend.proofs.backend.Backend.snapshot_of.Goals as goal

pub replay-requires-clause-base : goal.replay-requires-clause-base
replay-requires-clause-base g c =
    let k = plain_key c.args.key.now in
    let d = c.in_ok-base.ensures.ran in
    let l = plain_replay_base c.in_ok-base.base in
    (d.next, d.seen_after, log_after_run k c.args.pass.now c.run.new.pass d (λ log. IsReplayBaseUpTo log c.args.version 8192 l) d.ran.1 d.next d.seen_after d.ran.0)

pub returns-in_err-snapshot-clause-answered : goal.returns-in_err-snapshot-clause-answered
returns-in_err-snapshot-clause-answered g c =
    let k = plain_key c.args.key.now in
    let v = c.args.version in
    let d = c.in_ok-base.ensures.ran in
    let l = plain_replay_base c.in_ok-base.base in
    let known : IsReplayBaseSeenBy c.run.new.pass k v 8192 l = (d.next, d.seen_after, log_after_run k c.args.pass.now c.run.new.pass d (λ log. IsReplayBaseUpTo log v 8192 l) d.ran.1 d.next d.seen_after d.ran.0) in
    let failed = read_failed k c.args.pass.now c.run.new.pass c.replay.new.pass (run_at_same_history d d.ran.1) v 8192 l known c.if-base-version.false c.in_err-snapshot.ensures.read in
    let r = err_from_is_err_and c.from_residual-in_err-snapshot.result c.from_residual-in_err-snapshot.ensures.1 in
    let code = c.in_err-snapshot.ensures.err in
    rw (r.1, r.2, code) failed

pub returns-clause-answered : goal.returns-clause-answered
returns-clause-answered g c =
    let d = c.in_ok-base.ensures.ran in
    read_answered (plain_key c.args.key.now) c.args.pass.now c.run.new.pass c.replay.new.pass (run_at_same_history d d.ran.1) c.args.version (option_map value_of c.in_ok-snapshot.snapshot)
    c.in_ok-snapshot.ensures.read c.in_ok-snapshot.ensures.ok.0
