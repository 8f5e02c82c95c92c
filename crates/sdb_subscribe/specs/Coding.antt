-- Codes of the plain data, which decide their equality.
use Rattle.std.specs.Prelude.{ℕ, List, refl}
use Rattle.std.specs.Coded.{Coded, code_by, coded×, coded_ℕ, coded_list}
use Rattle.sdb_oplog.specs.Coding.{log_code}
use Rattle.sdb_oplog.specs.Plain.{PlainEntry}
use Rattle.sdb_subscribe.specs.Queue.{PlainQueue}
use Rattle.sdb_subscribe.specs.Ring.{RingedQueue, RingedQueues}

abbrev pub queue_code : Coded PlainQueue
queue_code =
    code_by (ℕ × (ℕ × ℕ)) (coded× coded_ℕ (coded× coded_ℕ coded_ℕ)) (λ q. (q.start, (q.taken, q.by)))
    (λ p. record { start = p.0; taken = p.1.0; by = p.1.1 }) (λ _. refl)

abbrev pub ringed_queue_code : Coded RingedQueue
ringed_queue_code =
    code_by (PlainQueue × List PlainEntry) (coded× queue_code log_code) (λ q. (q.queue, q.ring))
    (λ p. record { queue = p.0; ring = p.1 }) (λ _. refl)

abbrev pub ringed_queues_code : Coded RingedQueues
ringed_queues_code =
    code_by (ℕ × List (ℕ × RingedQueue)) (coded× coded_ℕ (coded_list (coded× coded_ℕ ringed_queue_code)))
    (λ q. (q.next, q.queues)) (λ p. record { next = p.0; queues = p.1 }) (λ _. refl)
