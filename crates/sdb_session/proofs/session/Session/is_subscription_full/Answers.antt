use Rattle.std.proofs.Common.{◌&&◌, length, map, not, sym, ap, ◌∙◌}
use Rattle.std.proofs.lemmas.List.{length-map}
use Rattle.std.specs.Bool.{nat_le}
use Rattle.sdb_session.specs.View.{plain_subscription}
use Rattle.sdb_session.proofs.SubscriptionMapLemmas.{is_there}
use Rattle.sdb_session.proofs.session.Session.is_subscription_full.Goals as goal

pub returns-then-not-contains_key : goal.returns-then-not-contains_key
returns-then-not-contains_key c =
    let es = c.args.self.now.subscriptions.entries in
    let there = is_there es c.args.key.now ∙ sym c.contains_key.ensures ∙ c.if-not-contains_key.true in
    ap (nat_le 64) (c.len.ensures.len ∙ sym (length-map es plain_subscription)) ∙ ap (λ b. not b && nat_le 64 (length (map plain_subscription es))) (sym there)

pub returns-else-not-contains_key : goal.returns-else-not-contains_key
returns-else-not-contains_key c =
    let es = c.args.self.now.subscriptions.entries in
    let there = is_there es c.args.key.now ∙ sym c.contains_key.ensures ∙ c.if-not-contains_key.false in
    ap not c.if-not-contains_key.false ∙ ap (λ b. not b && nat_le 64 (length (map plain_subscription es))) (sym there)
