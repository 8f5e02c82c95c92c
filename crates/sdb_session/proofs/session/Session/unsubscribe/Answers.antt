use Rattle.std.proofs.Common.{Option, map, option_map, ap, ◌∙◌, subst, string_bytes}
use Rattle.sdb_session.specs.Sessions.{QueueId}
use Rattle.sdb_session.specs.View.{plain_subscription, queue_id_of}
use Rattle.sdb_session.specs.Responses.{CloseCalls}
use Rattle.sdb_session.proofs.SubscriptionMapLemmas.{queue_of_copy, queue_entry, without_entry}
use Rattle.sdb_session.proofs.session.Session.unsubscribe.Goals as goal

pub returns-clause-close_calls : goal.returns-clause-close_calls
returns-clause-close_calls g c =
    let es = c.args.self.now.subscriptions.entries in
    let P : Option QueueId → Type 0 = λ o. CloseCalls (g.D.Desk.step c.args.desk.now) o c.args.pass.now c.close_queue.new.pass in
    subst P (queue_of_copy c.as_ref.result ∙ ap (option_map queue_id_of) (c.as_ref.ensures.value ∙ c.shift_remove-queue.ensures.value) ∙ queue_entry es c.args.key.now) c.close_queue.ensures.close_calls

pub returns-clause-session : goal.returns-clause-session
returns-clause-session g c =
    let es = c.args.self.now.subscriptions.entries in
    ap (λ subs. record { source = string_bytes c.args.self.now.source; subs = subs }) (ap (map plain_subscription) c.shift_remove-queue.ensures.entries ∙ without_entry es c.args.key.now)
