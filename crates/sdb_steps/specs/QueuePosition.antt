-- A session's position in its queue of a key.
use Rattle.std.specs.Prelude.{ℕ, ◌+◌, List, length}
use Rattle.sdb_oplog.specs.Plain.{PlainEntry}
use Rattle.sdb_subscribe.specs.Queue.{PlainQueue, queue}

-- the queue's start, and the number of entries read
pub record QueuePosition : Type 0 where
  pub start : ℕ
  pub taken : ℕ

abbrev pub position_of_queue : PlainQueue → QueuePosition
position_of_queue w = record { start = w.start; taken = w.taken }

-- the next entries of the queue
abbrev pub entries_at_position : List PlainEntry → ℕ → QueuePosition → List PlainEntry
entries_at_position log max r = queue log (r.start + r.taken) max

abbrev pub advance_position : List PlainEntry → ℕ → QueuePosition → QueuePosition
advance_position log max r = record { start = r.start; taken = r.taken + length (entries_at_position log max r) }
