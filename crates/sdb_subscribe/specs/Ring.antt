-- The ring buffers of queues, and the effect of an append on them.
use Rattle.std.specs.Prelude.{◌≡◌, ℕ, ◌+◌, ◌-◌, ◌<◌, ◌≤◌, ◌⊎◌, List, [], ◌∷◌, ◌++◌, map, drop, length, cond, nat_eq, Option, option_map}
use Rattle.std.specs.List.{AllByRecursion}
use Rattle.std.specs.Map.{lookup, set_value, remove_entry}
use Rattle.std.specs.Option.{option_map_or}
use Rattle.circular_buffer.specs.Buffer.{keep_last}
use Rattle.sdb_oplog.specs.Plain.{PlainEntry}
use Rattle.sdb_subscribe.specs.Queue.{PlainQueue, PlainQueues, advance, is_open_by}

-- a queue and the entries in its ring buffer
pub record RingedQueue : Type 0 where
  pub queue : PlainQueue
  pub ring : List PlainEntry

-- the next queue number, and the open queues sorted by number
pub record RingedQueues : Type 0 where
  pub next : ℕ
  pub queues : List (ℕ × RingedQueue)

-- the queues without their ring buffers
abbrev pub queues_without_rings : List (ℕ × RingedQueue) → List (ℕ × PlainQueue)
queues_without_rings = map (λ q. (q.0, q.1.queue))

abbrev pub without_rings : RingedQueues → PlainQueues
without_rings q = record { next = q.next; queues = queues_without_rings q.queues }

-- one more queue for an owner number from a version on, with an empty ring buffer
abbrev pub open_ringed_queue : ℕ → ℕ → RingedQueues → RingedQueues
open_ringed_queue by start q =
    record {
      next = q.next + 1;
      queues = q.queues ++ (q.next, record { queue = record { start = start; taken = 0; by = by }; ring = [] }) ∷ [];
    }

-- the ring buffer of the queue of this number
abbrev pub ring_at : ℕ → List (ℕ × RingedQueue) → Option (List PlainEntry)
ring_at n qs = option_map (λ q. q.ring) (lookup (nat_eq n) qs)

-- the next version of a queue
abbrev pub next_version : PlainQueue → ℕ
next_version w = w.start + w.taken

-- a ring buffer is a suffix of the log of at most 64 entries, none before the queue's position
pub record IsRingOfLog (log : List PlainEntry) (q : RingedQueue) : Type 0 where
  pub at_most_64 : length q.ring ≤ 64
  pub not_longer_than_log : length q.ring ≤ length log
  pub is_log_suffix : q.ring ≡ drop (length log - length q.ring) log
  pub not_before_position : 0 < length q.ring → next_version q.queue + length q.ring ≤ length log

-- each ring buffer is one of the log
abbrev pub AreRingsOfLog : List PlainEntry → List (ℕ × RingedQueue) → Type 0
AreRingsOfLog log = AllByRecursion (λ q. IsRingOfLog log q.1)

-- a queue after an append. Its ring buffer gets the entry and keeps the last 64, or is emptied if the clone fails to
-- allocate; it is unchanged if the queue's position is after the entry
pub record IsPushed (entry : PlainEntry) (q new : RingedQueue) : Type 0 where
  pub queue : new.queue ≡ q.queue
  pub ring :
      ((entry.version < next_version q.queue) × (new.ring ≡ q.ring))
      ⊎ ((next_version q.queue ≤ entry.version)
      × ((new.ring ≡ keep_last 64 (q.ring ++ entry ∷ [])) ⊎ (new.ring ≡ [])))

-- each queue is pushed to, under its number
abbrev pub ArePushed : PlainEntry → List (ℕ × RingedQueue) → List (ℕ × RingedQueue) → Type 0
ArePushed entry [] new = new ≡ []
ArePushed entry (q ∷ qs) [] = ⊥
ArePushed entry (q ∷ qs) (w ∷ new) = (w.0 ≡ q.0) × IsPushed entry q.1 w.1 × ArePushed entry qs new

-- a queue after a take: its ring buffer keeps no entry before its new position
abbrev pub advance_ringed_queue : List PlainEntry → ℕ → RingedQueue → RingedQueue
advance_ringed_queue log max q =
    record {
      queue = advance log max q.queue;
      ring = keep_last (length log - next_version (advance log max q.queue)) q.ring;
    }

-- the queues after a take that advanced this one
abbrev pub ringed_queues_after_take : List PlainEntry → ℕ → ℕ → List (ℕ × RingedQueue) → List (ℕ × RingedQueue)
ringed_queues_after_take log n max qs =
    option_map_or (λ q. set_value (nat_eq n) qs (advance_ringed_queue log max q)) (lookup (nat_eq n) qs) qs

-- a queue is unknown to any number but its owner's, and is then unchanged
abbrev pub ringed_queues_after_take_by : List PlainEntry → ℕ → ℕ → ℕ → List (ℕ × RingedQueue) → List (ℕ × RingedQueue)
ringed_queues_after_take_by log by n max qs = cond (is_open_by by n (queues_without_rings qs)) (ringed_queues_after_take log n max qs) qs

abbrev pub remove_ringed_queue_by : ℕ → ℕ → List (ℕ × RingedQueue) → List (ℕ × RingedQueue)
remove_ringed_queue_by by n qs = cond (is_open_by by n (queues_without_rings qs)) (remove_entry (nat_eq n) qs) qs
