use Rattle.std.proofs.Common.{rules, sym, ap, ◌∙◌, subst}
use Rattle.sdb_subscribe.specs.Queue.{AreBelowNext}
use Rattle.sdb_subscribe.specs.Ring.{without_rings, AreRingsOfLog, ArePushed}
use Rattle.sdb_subscribe.proofs.RingLemmas.{noted_pairs, noted_keys, noted_bare, noted_fit}
use Rattle.sdb_subscribe.proofs.queues.Queues.push_entry.Goals as goal

pub invariant_of-self : goal.invariant_of-self
invariant_of-self c =
    let e = c.args.entry.now in
    let es = c.self.inside.queues.entries in
    let ns = c.retain.new.self.entries in
    let noted : ArePushed e es ns = noted_pairs _ e _ (λ k v b w g t. search rules) es ns c.retain.ensures.filtered in
    subst (AreBelowNext c.self.inside.next) (sym (noted_keys e es ns noted)) c.self.invariant

pub returns-clause-pushed : goal.returns-clause-pushed
returns-clause-pushed c =
    let e = c.args.entry.now in
    let es = c.self.inside.queues.entries in
    let ns = c.retain.new.self.entries in
    let noted : ArePushed e es ns = noted_pairs _ e _ (λ k v b w g t. search rules) es ns c.retain.ensures.filtered in
    subst (λ q. ArePushed e q.queues ns) c.self.view_is noted

pub returns-clause-queues_unchanged : goal.returns-clause-queues_unchanged
returns-clause-queues_unchanged c =
    let e = c.args.entry.now in
    let es = c.self.inside.queues.entries in
    let ns = c.retain.new.self.entries in
    let noted : ArePushed e es ns = noted_pairs _ e _ (λ k v b w g t. search rules) es ns c.retain.ensures.filtered in
    (λ i. record { next = c.self.inside.next; queues = noted_bare e es ns noted i }) ∙ ap without_rings c.self.view_is

pub returns-clause-rings_of_log : goal.returns-clause-rings_of_log
returns-clause-rings_of_log c =
    let e = c.args.entry.now in
    let es = c.self.inside.queues.entries in
    let ns = c.retain.new.self.entries in
    let noted : ArePushed e es ns = noted_pairs _ e _ (λ k v b w g t. search rules) es ns c.retain.ensures.filtered in
    λ log f at. noted_fit log e es ns (subst (λ q. AreRingsOfLog log q.queues) (sym c.self.view_is) f) at noted
