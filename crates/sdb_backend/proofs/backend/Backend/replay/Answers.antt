use Rattle.std.proofs.Common.{◌≡◌, option_map, subst}
use Rattle.sdb_value.specs.View.{value_of}
use Rattle.sdb_oplog.specs.Decide.{IsMade}
use Rattle.sdb_oplog.specs.Keys.{plain_key, shard_of}
use Rattle.sdb_desk.specs.ShardView.{logs_of}
use Rattle.sdb_striped_lock.specs.laws.SeatLaws.{have_seen_unique}
use Rattle.sdb_backend.specs.ReplayBases.{IsDocumentAt}
use Rattle.sdb_backend.specs.declared.shard_value.Held.{Held}
use Rattle.sdb_backend.proofs.ReplayLemmas.{at_later}
use Rattle.sdb_backend.proofs.ReplayPartLemmas.{log_after_run, only_read_run}
use Rattle.sdb_backend.proofs.backend.Backend.replay.Goals as goal

pub run-requires-clause-ready : goal.run-requires-clause-ready
run-requires-clause-ready g c =
    λ x v saw ext same.
    let k = plain_key c.args.key.now in
    let s = option_map value_of c.in_ok-snapshot.snapshot in
    let doc = c.in_ok-snapshot.ensures.ok in
    let one : doc.0 ≡ x = have_seen_unique c.replay_in_place.new.pass.seats (shard_of k) doc.0 x doc.1 saw in
    let seen : IsDocumentAt (logs_of x.shard k) c.args.version s = subst (λ (y : Held). IsDocumentAt (logs_of y.shard k) c.args.version s) one doc.2 in
    at_later (logs_of x.shard k) (logs_of v.shard k) c.args.version s (ext.logs k) seen

pub returns-clause-read : goal.returns-clause-read
returns-clause-read g c =
    let e = c.run.ensures.ran in
    only_read_run (plain_key c.args.key.now) c.args.pass.now c.replay_in_place.new.pass c.run.new.pass e e.ran.2 e.ran.1 c.in_ok-snapshot.ensures.read

pub returns-clause-ok : goal.returns-clause-ok
returns-clause-ok g c =
    let k = plain_key c.args.key.now in
    let s = option_map value_of c.in_ok-snapshot.snapshot in
    let o = c.replay_in_place.new.pass in
    let q = c.run.new.pass in
    let e = c.run.ensures.ran in (
      (e.next, e.seen_after, log_after_run k o q e (λ l. IsDocumentAt l c.args.version s) e.ran.2 e.next e.seen_after e.ran.0),
      λ y see. log_after_run k o q e IsMade e.ran.2 y see e.ran.1,
    )
