-- The reference machine `OneStep`, which executes each submission atomically, and the replies and logs of its events:
-- `Legal`.
use Rattle.std.specs.Prelude.{◌≡◌, ℕ, ◌+◌, List, [], ◌∷◌, if◌then◌else◌, cond, nat_eq, Option, Result, Ok, Err}
use Rattle.std.specs.Result.{is_ok}
use Rattle.sdb_oplog.specs.declared.codes.Code.{Code}
use Rattle.sdb_oplog.specs.declared.codes.Code.TheVariants.{E11}
use Rattle.sdb_oplog.specs.Plain.{PlainEntry, PlainSubmission}
use Rattle.sdb_oplog.specs.Keys.{PlainKey, keys_equal, Logs, no_logs, with_log}
use Rattle.sdb_oplog.specs.Decide.{PlainReply, decide}
use Rattle.sdb_oplog.specs.Refusal.{result_and_then}
use Rattle.sdb_subscribe.specs.Queue.{queue}
use Rattle.sdb_desk.specs.Machine as desk
use Rattle.sdb_desk.specs.Machine.{PlainFetchResult, queue_start, snapshot_at, fetch_at_moment}

-- the log of each key, and the number of subscribes that succeeded for each key
pub record OneStep : Type 0 where
  pub logs : Logs
  pub issued_ids : PlainKey → ℕ

abbrev pub empty_machine : OneStep
empty_machine = record { logs = no_logs; issued_ids = λ k. 0 }

pub data Event : Type 0 where
  -- at a moment
  submission : PlainKey → PlainSubmission → ℕ → Event
  fetch : PlainKey → Event
  -- the document at a version, or the current one
  snapshot : PlainKey → Option ℕ → Event
  -- the document at a moment, or the current one
  snapshot_at_time : PlainKey → Option ℕ → Event
  -- from a version on, or from the current one
  subscribe : PlainKey → Option ℕ → Event
  -- the entries from a version on, up to a limit
  take_from : PlainKey → ℕ → ℕ → Event

pub data EventReply : Type 0 where
  decided : PlainReply → EventReply
  -- the version and the document at it
  fetched : PlainFetchResult → EventReply
  snapshot_fetched : Result PlainFetchResult Code → EventReply
  -- the version at a moment and the document at it
  moment_fetched : PlainFetchResult → EventReply
  -- the start version
  subscribed : Result ℕ Code → EventReply
  taken : List PlainEntry → EventReply

-- the start of a queue: E4 above the log's length, then E11 if the key's queue numbers are used up
abbrev pub start_result : OneStep → PlainKey → Option ℕ → Result ℕ Code
start_result m k v =
    result_and_then (λ start. if nat_eq (m.issued_ids k) 18446744073709551615 then Err E11 else Ok start) (queue_start (m.logs k) v)

abbrev pub reply_to_event : OneStep → Event → EventReply
reply_to_event m (submission k s now) = decided (decide (m.logs k) s now).reply
reply_to_event m (fetch k) = fetched (desk.fetch_result (m.logs k))
reply_to_event m (snapshot k v) = snapshot_fetched (snapshot_at (m.logs k) v)
reply_to_event m (snapshot_at_time k t) = moment_fetched (fetch_at_moment (m.logs k) t)
reply_to_event m (subscribe k v) = subscribed (start_result m k v)
reply_to_event m (take_from k from n) = taken (queue (m.logs k) from n)

-- the counts after one more subscribe of k succeeded
abbrev pub with_id_issued : (PlainKey → ℕ) → PlainKey → PlainKey → ℕ
with_id_issued f k q = cond (keys_equal k q) (f k + 1) (f q)

-- only a submission changes a log, and only a successful subscribe changes a count
abbrev pub machine_after_event : OneStep → Event → OneStep
machine_after_event m (submission k s now) = record { logs = with_log m.logs k (decide (m.logs k) s now).log; issued_ids = m.issued_ids }
machine_after_event m (fetch k) = m
machine_after_event m (snapshot k v) = m
machine_after_event m (snapshot_at_time k t) = m
machine_after_event m (subscribe k v) = if is_ok (start_result m k v) then record { logs = m.logs; issued_ids = with_id_issued m.issued_ids k } else m
machine_after_event m (take_from k from n) = m

-- ---- sequences of events

abbrev pub machine_after_events : OneStep → List Event → OneStep
machine_after_events m [] = m
machine_after_events m (e ∷ events) = machine_after_events (machine_after_event m e) events

abbrev pub replies_to_events : OneStep → List Event → List EventReply
replies_to_events m [] = []
replies_to_events m (e ∷ events) = reply_to_event m e ∷ replies_to_events (machine_after_event m e) events

-- from the empty machine on, the events give these replies and end with these logs
pub record Legal (events : List Event) (rs : List EventReply) (end : Logs) : Type 0 where
  pub replies_are : replies_to_events empty_machine events ≡ rs
  pub logs_are : (machine_after_events empty_machine events).logs ≡ end
