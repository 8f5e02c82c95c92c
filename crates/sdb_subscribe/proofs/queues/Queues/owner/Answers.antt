use Rattle.std.proofs.Common.{◌≡◌, ap, ◌∙◌, sym, Some, option_map}
use Rattle.sdb_subscribe.specs.Queue.{queue_at}
use Rattle.sdb_subscribe.specs.Ring.{without_rings, queues_without_rings}
use Rattle.sdb_subscribe.proofs.QueueMapLemmas.{lookup_by_cmp, at_bare}
use Rattle.sdb_subscribe.proofs.queues.Queues.owner.Goals as goal

pub returns-in-Some : goal.returns-in-Some
returns-in-Some c =
    let es = c.self.inside.queues.entries in
    let n = c.id.inside.number in
    ap Some c.by.ensures
    ∙ ap (λ o. option_map (λ w. w.by) (option_map (λ w. w.queue) o)) (c.in-Some.ensures.value ∙ lookup_by_cmp n es)
    ∙ ap (option_map (λ w. w.by)) (sym (at_bare n es) ∙ ap (λ k. queue_at k (queues_without_rings es)) c.id.view_is ∙ ap (λ q. queue_at c.args.id (without_rings q).queues) c.self.view_is)

pub returns-in-None : goal.returns-in-None
returns-in-None c =
    let es = c.self.inside.queues.entries in
    let n = c.id.inside.number in
    ap (λ o. option_map (λ w. w.by) (option_map (λ w. w.queue) o)) (c.in-None.ensures.value ∙ lookup_by_cmp n es)
    ∙ ap (option_map (λ w. w.by)) (sym (at_bare n es) ∙ ap (λ k. queue_at k (queues_without_rings es)) c.id.view_is ∙ ap (λ q. queue_at c.args.id (without_rings q).queues) c.self.view_is)
