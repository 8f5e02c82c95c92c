-- The queues of one document, and the entries that a queue receives, `queue`.
use Rattle.std.specs.Prelude.{Bool, true, false, ℕ, ◌+◌, ◌<◌, map, List, [], ◌∷◌, ◌++◌, take, drop, length, cond, if◌then◌else◌, nat_eq, Option, Some, None, option_map, Result, Ok, Err}
use Rattle.std.specs.List.{AllByRecursion}
use Rattle.std.specs.Option.{option_map_or}
use Rattle.sdb_oplog.specs.Plain.{PlainEntry}
use Rattle.sdb_oplog.specs.declared.codes.Code.{Code}
use Rattle.sdb_oplog.specs.declared.codes.Code.TheVariants.{E11}

-- the first n entries from version `from` on, fewer if the log ends before
abbrev pub queue : List PlainEntry → ℕ → ℕ → List PlainEntry
queue log from n = take n (drop from log)

-- a queue: its start version, the number of entries read, and its owner number
pub record PlainQueue : Type 0 where
  pub start : ℕ
  pub taken : ℕ
  pub by : ℕ

-- the next queue number, and the open queues sorted by number
pub record PlainQueues : Type 0 where
  pub next : ℕ
  pub queues : List (ℕ × PlainQueue)

abbrev pub queue_at : ℕ → List (ℕ × PlainQueue) → Option PlainQueue
queue_at n [] = None
queue_at n (q ∷ qs) = cond (nat_eq n q.0) (Some q.1) (queue_at n qs)

-- the queues with the one of this number replaced by w
abbrev pub replace_queue : ℕ → PlainQueue → List (ℕ × PlainQueue) → List (ℕ × PlainQueue)
replace_queue n w [] = []
replace_queue n w (q ∷ qs) = cond (nat_eq n q.0) ((q.0, w) ∷ qs) (q ∷ replace_queue n w qs)

-- the queues without the one of this number
abbrev pub remove_queue : ℕ → List (ℕ × PlainQueue) → List (ℕ × PlainQueue)
remove_queue n [] = []
remove_queue n (q ∷ qs) = cond (nat_eq n q.0) qs (q ∷ remove_queue n qs)

-- one more queue for this owner from this version on, unless the queue numbers are used up
abbrev pub open_queue : ℕ → ℕ → PlainQueues → Result PlainQueues Code
open_queue by from q =
    if nat_eq q.next 18446744073709551615 then Err E11
    else (Ok (record {
      next = q.next + 1;
      queues = q.queues ++ (q.next, record { start = from; taken = 0; by = by }) ∷ [];
    }))

-- the next entries of a queue
abbrev pub pending_entries : List PlainEntry → ℕ → PlainQueue → List PlainEntry
pending_entries log max w = queue log (w.start + w.taken) max

abbrev pub advance : List PlainEntry → ℕ → PlainQueue → PlainQueue
advance log max w = record { start = w.start; taken = w.taken + length (pending_entries log max w); by = w.by }

-- the entries of a take, or `None` if no queue has this number
abbrev pub take_result : List PlainEntry → ℕ → ℕ → List (ℕ × PlainQueue) → Option (List PlainEntry)
take_result log n max qs = option_map (pending_entries log max) (queue_at n qs)

-- the queues after a take, with the position of that one advanced
abbrev pub queues_after_take : List PlainEntry → ℕ → ℕ → List (ℕ × PlainQueue) → List (ℕ × PlainQueue)
queues_after_take log n max qs = option_map_or (λ w. replace_queue n (advance log max w) qs) (queue_at n qs) qs

-- ---- queues by owner

abbrev pub is_queue_of : ℕ → Option PlainQueue → Bool
is_queue_of by None = false
is_queue_of by (Some w) = nat_eq w.by by

-- the queue is open and belongs to the number
abbrev pub is_open_by : ℕ → ℕ → List (ℕ × PlainQueue) → Bool
is_open_by by n qs = is_queue_of by (queue_at n qs)

-- a queue is unknown to any number but its owner's
abbrev pub take_result_by : List PlainEntry → ℕ → ℕ → ℕ → List (ℕ × PlainQueue) → Option (List PlainEntry)
take_result_by log by n max qs = cond (is_open_by by n qs) (take_result log n max qs) None

abbrev pub queues_after_take_by : List PlainEntry → ℕ → ℕ → ℕ → List (ℕ × PlainQueue) → List (ℕ × PlainQueue)
queues_after_take_by log by n max qs = cond (is_open_by by n qs) (queues_after_take log n max qs) qs

abbrev pub remove_queue_by : ℕ → ℕ → List (ℕ × PlainQueue) → List (ℕ × PlainQueue)
remove_queue_by by n qs = cond (is_open_by by n qs) (remove_queue n qs) qs

-- ---- numbers

abbrev pub queue_ids : List (ℕ × PlainQueue) → List ℕ
queue_ids = map (λ q. q.0)

-- each number is below the next one
abbrev pub AreBelowNext : ℕ → List ℕ → Type 0
AreBelowNext next = AllByRecursion (λ n. n < next)
