use Rattle.std.proofs.Common.{Option, option_map, ap, ◌∙◌, subst}
use Rattle.sdb_session.specs.Responses.{CloseCalls}
use Rattle.sdb_session.specs.Sessions.{QueueId}
use Rattle.sdb_session.specs.View.{queue_id_of}
use Rattle.sdb_session.proofs.SubscriptionMapLemmas.{queue_of_copy, queue_entry}
use Rattle.sdb_session.proofs.session.Session.replace_queue.Goals as goal

pub returns-clause-close_calls : goal.returns-clause-close_calls
returns-clause-close_calls g c =
    let P : Option QueueId → Type 0 = λ o. CloseCalls (g.D.Desk.step c.args.desk.now) o c.args.pass.now c.close_queue.new.pass in
    let old = queue_of_copy c.get.result ∙ ap (option_map queue_id_of) c.get.ensures.value ∙ queue_entry c.args.self.now.subscriptions.entries c.args.key in
    subst P old c.close_queue.ensures.close_calls
