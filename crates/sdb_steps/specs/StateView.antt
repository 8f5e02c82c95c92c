-- The views of attempts and sessions, given the queues of a shard.
use Rattle.std.specs.Prelude.{ℕ, zero, suc, ◌+◌, List, [], ◌∷◌, if◌then◌else◌, Option, None, option_map, unwrap_or, slice_get, Bool, true, false}
use Rattle.std.specs.Option.{is_some, option_and_then}
use Rattle.sdb_oplog.specs.Plain.{PlainSubmission}
use Rattle.sdb_oplog.specs.Keys.{PlainKey, plain_key}
use Rattle.sdb_oplog.specs.declared.keys.Key.{Key}
use Rattle.sdb_subscribe.specs.Queue.{PlainQueues, queue_at}
use Rattle.sdb_desk.specs.MapModel.{value_at_key}
use Rattle.sdb_desk.specs.ShardView.{logs_of, queues_of}
use Rattle.sdb_desk.specs.Machine.{QueuesByKey}
use Rattle.sdb_desk.specs.declared.shard.Shard.{Shard}
use Rattle.sdb_steps.specs.OneStep.{OneStep}
use Rattle.sdb_steps.specs.Picks as plain
use Rattle.sdb_steps.specs.QueuePosition.{QueuePosition, position_of_queue}
use Rattle.sdb_steps.specs.Slots.{PlainQueueSlots, count_in_slot}
use Rattle.sdb_steps.specs.declared.session_data.Phase.{Phase}
use Rattle.sdb_steps.specs.declared.session_data.Phase.TheVariants.{Looked, Moved, Worked}
use Rattle.sdb_steps.specs.declared.session_data.OpenAttempt.{OpenAttempt}
use Rattle.sdb_steps.specs.declared.session_data.Session.{Session}

-- the reference machine of a shard
abbrev pub one_step_of_shard : Shard → OneStep
one_step_of_shard s = record { logs = logs_of s; issued_ids = λ k. (queues_of s k).next }

abbrev pub submission_in : Phase → PlainSubmission
submission_in (Looked a) = a.submission
submission_in (Moved w l) = w.submission
submission_in (Worked w) = w.submission

abbrev pub look_version : Phase → ℕ
look_version (Looked a) = a.look.version
look_version (Moved w l) = l.version
look_version (Worked w) = w.look.version

abbrev pub is_worked : Phase → Bool
is_worked (Looked a) = false
is_worked (Moved w l) = false
is_worked (Worked w) = true

abbrev pub attempt_at : PlainKey → Phase → ℕ → plain.PlainOpenAttempt
attempt_at k s tries =
    record { key = k; submission = submission_in s; looked_version = look_version s; tries = tries; is_worked = is_worked s }

abbrev pub plain_open_attempt : OpenAttempt → plain.PlainOpenAttempt
plain_open_attempt t = attempt_at (plain_key t.key) t.phase t.tries

abbrev pub queue_slots_in : List (Key × Option ℕ) → PlainQueueSlots
queue_slots_in es = value_at_key None es

abbrev pub queue_slots_of : Session → PlainQueueSlots
queue_slots_of x = queue_slots_in x.slots.entries

-- the position in the queue of this number
abbrev pub position_in_queues : PlainQueues → Option ℕ → Option QueuePosition
position_in_queues q o = option_map position_of_queue (option_and_then (λ n. queue_at n q.queues) o)

abbrev pub session_state_of : QueuesByKey → Session → plain.SessionState
session_state_of q x =
    record { attempt = option_map plain_open_attempt x.attempt; queues = λ k. position_in_queues (q k) (queue_slots_of x k) }

abbrev pub session_states_of : QueuesByKey → List Session → plain.SessionStates
session_states_of q xs n = unwrap_or (option_map (session_state_of q) (slice_get xs n)) plain.empty_session

-- how many of n sessions, from session i on, have a queue of the key
abbrev pub count_queues : plain.SessionStates → PlainKey → ℕ → ℕ → ℕ
count_queues w k i zero = 0
count_queues w k i (suc n) = (if is_some ((w i).queues k) then 1 else 0) + count_queues w k (i + 1) n

-- how many slots of a key have a queue
abbrev pub count_slots : List Session → PlainKey → ℕ
count_slots [] k = 0
count_slots (x ∷ xs) k = count_in_slot (queue_slots_of x k) + count_slots xs k

-- the slots of session n
abbrev pub queue_slots_at : List Session → ℕ → PlainQueueSlots
queue_slots_at xs n k = option_and_then (λ x. queue_slots_of x k) (slice_get xs n)
