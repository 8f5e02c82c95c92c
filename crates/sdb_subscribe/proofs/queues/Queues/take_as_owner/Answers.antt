use Rattle.std.proofs.Common.{sym, ap, ◌∙◌, subst}
use Rattle.sdb_subscribe.specs.Queue.{queues_after_take}
use Rattle.sdb_subscribe.specs.Ring.{queues_without_rings, AreRingsOfLog}
use Rattle.sdb_subscribe.proofs.TakeLemmas.{on_ok, bare_taken, fit_after}
use Rattle.sdb_subscribe.proofs.queues.Queues.take_as_owner.Goals as goal

pub returns-clause-queues_after : goal.returns-clause-queues_after
returns-clause-queues_after c =
    let log = c.args.log.now in
    let n = c.id.inside.number in
    let es = c.self.inside.queues.entries in
    on_ok c.take_from_queue.result (λ e. ap queues_without_rings e ∙ bare_taken log n c.args.max es ∙ ap (λ k. queues_after_take log k c.args.max (queues_without_rings es)) c.id.view_is
    ∙ ap (λ q. queues_after_take log c.args.id c.args.max (queues_without_rings q.queues)) c.self.view_is) c.take_from_queue.ensures.rings

pub returns-clause-rings_of_log : goal.returns-clause-rings_of_log
returns-clause-rings_of_log c =
    let log = c.args.log.now in
    fit_after log c.id.inside.number c.args.max c.self.inside.queues.entries c.take_from_queue.new.queues.entries c.take_from_queue.result c.take_from_queue.ensures.rings c.take_from_queue.ensures.err
    (subst (λ q. AreRingsOfLog log q.queues) (sym c.self.view_is) c.requires)
