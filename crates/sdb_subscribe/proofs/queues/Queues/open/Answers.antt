use Rattle.std.proofs.Common.{◌+◌, ◌++◌, ◌∷◌, [], Some, sym, ap, ◌∙◌, subst}
use Rattle.sdb_subscribe.specs.Queue.{queue_at}
use Rattle.sdb_subscribe.specs.Ring.{queues_without_rings, open_ringed_queue, AreRingsOfLog}
use Rattle.sdb_subscribe.specs.laws.QueueLaws.{queue_at_opened}
use Rattle.sdb_subscribe.proofs.QueueMapLemmas.{insert_new_last, added_bare, assigned_added, assigned_bare}
use Rattle.sdb_subscribe.proofs.RingLemmas.{fit_added, fits_empty}
use Rattle.sdb_subscribe.proofs.queues.Queues.open.Goals as goal

pub invariant_of-self-2 : goal.invariant_of-self-2
invariant_of-self-2 c =
    let es = c.self.inside.queues.entries in
    let n = c.self.inside.next in
    let w = c.in_ok-queue.queue in
    rw (c.in-Ok.ensures.entries ∙ insert_new_last n w es c.self.invariant) (assigned_added n w es c.self.invariant)

pub returns-clause-ok : goal.returns-clause-ok
returns-clause-ok c =
    let es = c.self.inside.queues.entries in
    let n = c.self.inside.next in
    let w = c.in_ok-queue.queue in (
      ap (λ q. q.next) c.self.view_is,
      ap (λ l. record { next = n + 1; queues = l }) (c.in-Ok.ensures.entries ∙ insert_new_last n w es c.self.invariant ∙ ap (λ v. es ++ (n, v) ∷ []) c.in_ok-queue.ensures)
          ∙ ap (open_ringed_queue c.args.by c.args.from) c.self.view_is,
    )

pub returns-clause-open : goal.returns-clause-open
returns-clause-open c =
    let es = c.self.inside.queues.entries in
    let n = c.self.inside.next in
    let w = c.in_ok-queue.queue in
    ap (queue_at n) (ap queues_without_rings (c.in-Ok.ensures.entries ∙ insert_new_last n w es c.self.invariant) ∙ added_bare n w es)
    ∙ queue_at_opened n w.queue (queues_without_rings es) (assigned_bare n es c.self.invariant) ∙ ap (λ v. Some v.queue) c.in_ok-queue.ensures

pub returns-clause-rings_of_log : goal.returns-clause-rings_of_log
returns-clause-rings_of_log c =
    let es = c.self.inside.queues.entries in
    let n = c.self.inside.next in
    let w = c.in_ok-queue.queue in
    λ log f. subst (AreRingsOfLog log) (sym (c.in-Ok.ensures.entries ∙ insert_new_last n w es c.self.invariant))
    (fit_added log es (n, w) (subst (λ q. AreRingsOfLog log q.queues) (sym c.self.view_is) f) (fits_empty log w (ap (λ v. v.ring) c.in_ok-queue.ensures)))
