use Rattle.std.proofs.Common.{◌∙◌, ap, map}
use Rattle.sdb_session.specs.View.{plain_subscription}
use Rattle.sdb_session.proofs.SubscriptionMapLemmas.{put_entry, from_ok}
use Rattle.sdb_session.proofs.session.Session.insert_subscription.Goals as goal

pub returns-clause-subs : goal.returns-clause-subs
returns-clause-subs c =
    ap (map plain_subscription) (from_ok c.insert.result (c.insert.ensures.succeeds c.requires) c.insert.ensures.entries) ∙ put_entry c.args.self.now.subscriptions.entries c.args.key c.args.queue
