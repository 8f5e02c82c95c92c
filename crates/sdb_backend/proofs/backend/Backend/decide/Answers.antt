use Rattle.std.proofs.Common.{◌≡◌, subst, sym}
use Rattle.sdb_oplog.specs.Keys.{Logs, plain_key, shard_of}
use Rattle.sdb_desk.specs.ShardView.{logs_of}
use Rattle.sdb_desk.specs.Looks.{IsLook}
use Rattle.sdb_desk.specs.View.{plain_outcome, outcome_of_decision}
use Rattle.sdb_submit.specs.Calls.{commit}
use Rattle.sdb_submit.specs.laws.SubmitLaws.{moved_is_look}
use Rattle.sdb_striped_lock.specs.laws.SeatLaws.{have_seen_unique}
use Rattle.sdb_backend.specs.LooksInParts.{HasGrown}
use Rattle.sdb_backend.specs.declared.shard_value.Held.{Held}
use Rattle.sdb_backend.proofs.LookPartLemmas.{continues_after_run}
use Rattle.sdb_backend.proofs.SeenLemmas.{is_look_of_extension, map_moved}
use Rattle.sdb_backend.proofs.StepLemmas.{run_at_same_history}
use Rattle.sdb_backend.proofs.backend.Backend.decide.Goals as goal

pub run-requires-clause-ready : goal.run-requires-clause-ready
run-requires-clause-ready g c =
    λ x v saw ext same.
    let k = plain_key c.args.key.now in
    let l = c.requires.ready.1 in
    let one : l.0 ≡ x = have_seen_unique c.args.pass.now.seats (shard_of k) l.0 x l.1 saw in
    let look : IsLook (logs_of x.shard k) c.args.work.now = subst (λ (y : Held). IsLook (logs_of y.shard k) c.args.work.now) one l.2 in
    (c.requires.ready.0, is_look_of_extension (logs_of x.shard k) (logs_of v.shard k) c.args.work.now (ext.logs k) look)

pub returns-in-Some-clause-seen : goal.returns-in-Some-clause-seen
returns-in-Some-clause-seen g c =
    let d = c.in-Some.ensures.ran in
    let k = plain_key c.args.key.now in
    let a = c.args.work.now in
    let o = outcome_of_decision a c.in-Some.decision in
    map_moved o (λ l h. (d.next, d.seen_after, h)) (moved_is_look (logs_of d.history.shard) (logs_of d.next.shard) k a c.args.now o d.ran.0.0)

pub returns-in-Some-clause-answered : goal.returns-in-Some-clause-answered
returns-in-Some-clause-answered g c = run_at_same_history c.in-Some.ensures.ran c.in-Some.ensures.ran.ran.0

pub look_again-requires-clause-outdated : goal.look_again-requires-clause-outdated
look_again-requires-clause-outdated g c =
    let d = c.in-None.ensures.ran in
    let k = plain_key c.args.key.now in
    (d.next, d.seen_after, subst (λ (f : Logs). HasGrown (f k) c.args.work.now) (sym d.ran.1.0) d.ran.0)

pub returns-in-None-clause-answered : goal.returns-in-None-clause-answered
returns-in-None-clause-answered g c =
    let d = c.in-None.ensures.ran in
    continues_after_run (plain_key c.args.key.now) _ c.args.pass.now c.args.pass.now c.run.new.pass d d.ran.1 (λ e a r h. h)
    (commit c.args.work.now c.args.now) (plain_outcome c.look_again.result) c.look_again.new.pass (c.look_again.ensures.answered c.args.now)
