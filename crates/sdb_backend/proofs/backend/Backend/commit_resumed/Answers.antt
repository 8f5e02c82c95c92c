use Rattle.std.proofs.Common.{◌≡◌, subst}
use Rattle.sdb_oplog.specs.Keys.{plain_key, shard_of}
use Rattle.sdb_desk.specs.ShardView.{logs_of}
use Rattle.sdb_desk.specs.Looks.{IsLook}
use Rattle.sdb_striped_lock.specs.laws.SeatLaws.{have_seen_unique}
use Rattle.sdb_backend.specs.declared.shard_value.Held.{Held}
use Rattle.sdb_backend.proofs.SeenLemmas.{is_look_of_extension}
use Rattle.sdb_backend.proofs.StepLemmas.{run_at_same_history}
use Rattle.sdb_backend.proofs.backend.Backend.commit_resumed.Goals as goal

pub run-reply-requires-clause-ready : goal.run-reply-requires-clause-ready
run-reply-requires-clause-ready g c =
    λ x v saw ext same.
    let k = plain_key c.args.key.now in
    let l = c.requires.ready.1 in
    let one : l.0 ≡ x = have_seen_unique c.args.pass.now.seats (shard_of k) l.0 x l.1 saw in
    let look : IsLook (logs_of x.shard k) c.args.work = subst (λ (y : Held). IsLook (logs_of y.shard k) c.args.work) one l.2 in
    (c.requires.ready.0, is_look_of_extension (logs_of x.shard k) (logs_of v.shard k) c.args.work (ext.logs k) look)

pub returns-clause-answered : goal.returns-clause-answered
returns-clause-answered g c = run_at_same_history c.run-reply.ensures.ran c.run-reply.ensures.ran.ran.0
