-- Slots: the number of a session's queue for each key, and the effect of a step on other sessions' queues.
use Rattle.std.specs.Prelude.{◌≡◌, ℕ, ◌+◌, ◌<◌, ◌≤◌, ◌⊎◌, length, true, Option, Some, None}
use Rattle.std.specs.Option.{option_map_or}
use Rattle.sdb_oplog.specs.Keys.{PlainKey}
use Rattle.sdb_subscribe.specs.Queue.{PlainQueues, queue_at, is_open_by}
use Rattle.sdb_desk.specs.Machine.{QueuesByKey, close_queue}

-- the number of the session's queue for each key, or none
abbrev pub PlainQueueSlots : Type 0
PlainQueueSlots = PlainKey → Option ℕ

-- how many queues a slot has
abbrev pub count_in_slot : Option ℕ → ℕ
count_in_slot None = 0
count_in_slot (Some n) = 1

-- each queue in a slot of session i is open under number i, and its number was issued
abbrev pub SlotsOpen : ℕ → QueuesByKey → PlainQueueSlots → Type 0
SlotsOpen i q s = (k : PlainKey) (n : ℕ) → s k ≡ Some n → (n < (q k).next) × (is_open_by i n (q k).queues ≡ true)

-- no queue is in the slots of two sessions
abbrev pub SlotsDisjoint : (ℕ → PlainQueueSlots) → Type 0
SlotsDisjoint all = (i j : ℕ) (k : PlainKey) (n : ℕ) → all i k ≡ Some n → all j k ≡ Some n → i ≡ j

-- from queues q and slots s of session i to r and t: no number is reissued, queues of other sessions are unchanged, a new
-- slot has a new number, and as many queues are opened or closed as slots are filled or emptied
pub record OtherQueuesUnchanged (i : ℕ) (q : QueuesByKey) (s : PlainQueueSlots) (r : QueuesByKey) (t : PlainQueueSlots) : Type 0 where
  pub next_not_lower : (k : PlainKey) → (q k).next ≤ (r k).next
  pub others : (k : PlainKey) (n : ℕ) → n < (q k).next → (s k ≡ Some n → ⊥)
      → queue_at n (r k).queues ≡ queue_at n (q k).queues
  pub own_or_new : (k : PlainKey) (n : ℕ) → t k ≡ Some n → (s k ≡ Some n) ⊎ ((q k).next ≤ n)
  pub now : SlotsOpen i r t
  pub counted : (k : PlainKey) → length (r k).queues + count_in_slot (s k) ≡ length (q k).queues + count_in_slot (t k)

-- the queues after session i has closed this one, if there is one
abbrev pub close_in : ℕ → Option ℕ → PlainQueues → PlainQueues
close_in i o q = option_map_or (λ n. close_queue i n q) o q
