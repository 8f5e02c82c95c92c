use Rattle.std.proofs.Common.{◌++◌, [], ◌∷◌, map, refl, sym, ap, ◌∙◌, append_assoc}
use Rattle.sdb_oplog.specs.declared.keys.Key.{Key}
use Rattle.sdb_session.specs.View.{plain_subscription}
use Rattle.sdb_session.specs.declared.subscriptions.Subscription.{Subscription}
use Rattle.sdb_session.proofs.PassLemmas.{next_pass_trans}
use Rattle.sdb_session.proofs.PumpLemmas.{closed_more, closed_none}
use Rattle.sdb_session.proofs.session.Session.end.Goals as goal

pub loop-queue-init : goal.loop-queue-init
loop-queue-init g c = record {
  pass = record { accepted = c.requires.accepted; number_unchanged = refl };
  so_far = ([], (ap (map plain_subscription) (c.into_iter-queue-iterator.ensures.into_iter_gives ∙ c.iter-queue-items.ensures.rest), closed_none (g.D.Desk.step c.args.desk.now) c.args.pass.now));
}

pub loop-queue-preserved : goal.loop-queue-preserved
loop-queue-preserved g c =
    let far = c.loop-queue.invariant.so_far in
    let e : Key × Subscription = (c.in-Some.field-0-0.now, c.in-Some.queue.now) in
    let rest = c.next.new.self in
    record {
      pass = next_pass_trans c.loop-queue.invariant.pass c.unsubscribe.ensures.call.pass;
      so_far = (
        far.0 ++ plain_subscription e ∷ [],
        (
          append_assoc far.0 (plain_subscription e ∷ []) (map plain_subscription rest) ∙ ap (λ es. far.0 ++ map plain_subscription es) (sym c.in-Some.ensures.steps) ∙ far.1.0,
          closed_more (g.D.Desk.step c.args.desk.now) far.0 (plain_subscription e) c.args.pass.now c.loop-queue.pass c.unsubscribe.new.pass far.1.1 c.unsubscribe.ensures.call.step,
        ),
      );
    }
