-- Histories of a shard: their order, and the share of a number in one.
use Rattle.std.specs.Prelude.{◌≡◌, ℕ, ◌<◌, ◌≤◌, List, [], ◌∷◌, ◌++◌, cond, nat_eq, Option, Some, None}
use Rattle.sdb_oplog.specs.Plain.{PlainEntry, PlainSubmission, PlainContent}
use Rattle.sdb_oplog.specs.Decide.{PlainReply, stored, repeated, refused}
use Rattle.sdb_oplog.specs.Keys.{PlainKey, with_log}
use Rattle.sdb_subscribe.specs.Queue.{PlainQueue, PlainQueues, queue_at}
use Rattle.sdb_desk.specs.Machine.{Machine}

-- the first log begins with the second
abbrev pub IsExtension : List PlainEntry → List PlainEntry → Type 0
IsExtension new old = (more : List PlainEntry) × (new ≡ old ++ more)

-- a queue later and before: start and owner are unchanged, takes don't go back while it is open, and a closed queue
-- stays closed
abbrev pub QueueContinues : Option PlainQueue → Option PlainQueue → Type 0
QueueContinues None o = Unit {0}
QueueContinues (Some w) None = ⊥
QueueContinues (Some w) (Some q) = (w.start ≡ q.start) × (q.taken ≤ w.taken) × (w.by ≡ q.by)

-- the queues of one key, later and before
pub record QueuesContinue (new old : PlainQueues) : Type 0 where
  pub next_id_not_lower : old.next ≤ new.next
  pub each_continues : (n : ℕ) → n < old.next → QueueContinues (queue_at n new.queues) (queue_at n old.queues)

-- the first history extends the second
pub record Extends (new old : Machine) : Type 0 where
  pub logs : (k : PlainKey) → IsExtension (new.logs k) (old.logs k)
  pub queues : (k : PlainKey) → QueuesContinue (new.queues k) (old.queues k)

-- the entries submitted under a number
abbrev pub stored_by : ℕ → List PlainEntry → List PlainEntry
stored_by n [] = []
stored_by n (e ∷ es) = cond (nat_eq e.arrived.by n) (e ∷ stored_by n es) (stored_by n es)

-- the queue, if it was opened under the number
abbrev pub queue_owned_by : ℕ → Option PlainQueue → Option PlainQueue
queue_owned_by n None = None
queue_owned_by n (Some w) = cond (nat_eq w.by n) (Some w) None

-- the share of a number: its entries by key, and its open queues by key and queue number
pub record Share : Type 0 where
  pub entries : PlainKey → List PlainEntry
  pub queues : PlainKey → ℕ → Option PlainQueue

abbrev pub share_of : ℕ → Machine → Share
share_of n m = record { entries = λ k. stored_by n (m.logs k); queues = λ k i. queue_owned_by n (queue_at i (m.queues k).queues) }

abbrev pub empty_share : Share
empty_share = record { entries = λ k. []; queues = λ k i. None }

-- the share with one more entry of the key
abbrev pub share_with_entry : Share → PlainKey → PlainEntry → Share
share_with_entry p k e = record { entries = with_log p.entries k (p.entries k ++ e ∷ []); queues = p.queues }

-- the effect of a submission on its number's share: `stored` adds one entry at its version, not before this moment, and
-- any other reply adds none; queues are unchanged
abbrev pub AddsToShare : PlainKey → PlainSubmission → ℕ → PlainReply → Share → Share → Type 0
AddsToShare k s now (stored v missed) old new =
    (t : ℕ) × (now ≤ t) × (m : PlainContent)
    × (new ≡ share_with_entry old k (record { version = v; moment = t; content = m; arrived = s }))
AddsToShare k s now (repeated v) old new = new ≡ old
AddsToShare k s now (refused code) old new = new ≡ old
