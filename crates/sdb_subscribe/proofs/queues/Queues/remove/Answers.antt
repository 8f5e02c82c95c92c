use Rattle.std.proofs.Common.{ap, ◌∙◌, sym, subst, option_map}
use Rattle.sdb_subscribe.specs.Queue.{remove_queue, queue_at}
use Rattle.sdb_subscribe.specs.Ring.{queues_without_rings, AreRingsOfLog}
use Rattle.sdb_subscribe.proofs.QueueMapLemmas.{lookup_by_cmp, at_bare, remove_by_cmp, removed_bare, assigned_without}
use Rattle.sdb_subscribe.proofs.RingLemmas.{fit_without}
use Rattle.sdb_subscribe.proofs.queues.Queues.remove.Goals as goal

pub invariant_of-self : goal.invariant_of-self
invariant_of-self c =
    let es = c.self.inside.queues.entries in
    let n = c.id.inside.number in
    rw (c.release_if_empty.ensures ∙ c.remove.ensures.entries ∙ remove_by_cmp n es) (assigned_without n c.self.inside.next es c.self.invariant)

pub returns-clause-queues : goal.returns-clause-queues
returns-clause-queues c =
    let es = c.self.inside.queues.entries in
    let n = c.id.inside.number in
    ap queues_without_rings (c.release_if_empty.ensures ∙ c.remove.ensures.entries ∙ remove_by_cmp n es) ∙ removed_bare n es ∙ ap (λ k. remove_queue k (queues_without_rings es)) c.id.view_is ∙ ap (λ q. remove_queue c.args.id (queues_without_rings q.queues)) c.self.view_is

pub returns-clause-rings_of_log : goal.returns-clause-rings_of_log
returns-clause-rings_of_log c =
    let es = c.self.inside.queues.entries in
    let n = c.id.inside.number in
    λ log f. subst (AreRingsOfLog log) (sym (c.release_if_empty.ensures ∙ c.remove.ensures.entries ∙ remove_by_cmp n es)) (fit_without log n es (subst (λ q. AreRingsOfLog log q.queues) (sym c.self.view_is) f))

pub returns-clause-removed : goal.returns-clause-removed
returns-clause-removed c =
    let es = c.remove.new.self.entries in
    let n = c.id.inside.number in
    ap (λ l. queue_at c.args.id (queues_without_rings l)) c.release_if_empty.ensures ∙ ap (λ k. queue_at k (queues_without_rings es)) (sym c.id.view_is)
    ∙ at_bare n es ∙ ap (option_map (λ w. w.queue)) (sym (lookup_by_cmp n es) ∙ c.remove.ensures.updates.1)
