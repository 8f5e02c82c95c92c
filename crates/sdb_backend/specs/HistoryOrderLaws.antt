-- Laws of histories: `Extends` is reflexive and transitive.
use Rattle.std.proofs.Common.{List, [], ◌++◌, Option, Some, None, refl, sym, ap, ◌∙◌, arith, append_assoc, append-nil}
use Rattle.sdb_oplog.specs.Plain.{PlainEntry}
use Rattle.sdb_subscribe.specs.Queue.{PlainQueue, PlainQueues, queue_at}
use Rattle.sdb_desk.specs.Machine.{Machine}
use Rattle.sdb_backend.specs.HistoryOrder.{IsExtension, QueueContinues, QueuesContinue, Extends}

-- ---- logs

pub is_extension_refl : (l : List PlainEntry) → IsExtension l l
is_extension_refl l = ([], sym (append-nil l))

pub is_extension_trans : (a b c : List PlainEntry) → IsExtension c b → IsExtension b a → IsExtension c a
is_extension_trans a b c h k = (k.0 ++ h.0, h.1 ∙ ap (λ l. l ++ h.0) k.1 ∙ append_assoc a k.0 h.0)

-- ---- queues

pub queue_continues_refl : (o : Option PlainQueue) → QueueContinues o o
queue_continues_refl None = tt
queue_continues_refl (Some q) = (refl, omega arith, refl)

queue_continues_trans : (c b a : Option PlainQueue) → QueueContinues c b → QueueContinues b a → QueueContinues c a
queue_continues_trans None b a h k = tt
queue_continues_trans (Some w) None a h k = absurd h
queue_continues_trans (Some w) (Some v) None h k = absurd k
queue_continues_trans (Some w) (Some v) (Some q) h k = let x = h.1 in let y = k.1 in (h.0 ∙ k.0, omega (arith, x, y), h.2 ∙ k.2)

pub queues_continue_refl : (q : PlainQueues) → QueuesContinue q q
queues_continue_refl q = record { next_id_not_lower = omega arith; each_continues = λ n l. queue_continues_refl (queue_at n q.queues) }

queues_continue_trans : (a b c : PlainQueues) → QueuesContinue c b → QueuesContinue b a → QueuesContinue c a
queues_continue_trans a b c h k =
    let x = h.next_id_not_lower in
    let y = k.next_id_not_lower in
    record {
      next_id_not_lower = omega (arith, x, y);
      each_continues = λ n l. queue_continues_trans (queue_at n c.queues) (queue_at n b.queues) (queue_at n a.queues)
          (h.each_continues n (omega (arith, l, y))) (k.each_continues n l);
    }

-- ---- both laws

pub extends_refl : (m : Machine) → Extends m m
extends_refl m = record { logs = λ k. is_extension_refl (m.logs k); queues = λ k. queues_continue_refl (m.queues k) }

pub extends_trans : (a b c : Machine) → Extends c b → Extends b a → Extends c a
extends_trans a b c h g = record {
  logs = λ k. is_extension_trans (a.logs k) (b.logs k) (c.logs k) (h.logs k) (g.logs k);
  queues = λ k. queues_continue_trans (a.queues k) (b.queues k) (c.queues k) (h.queues k) (g.queues k);
}
