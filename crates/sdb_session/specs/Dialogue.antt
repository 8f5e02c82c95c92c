-- The dialogue of one session that is alone with the machine. Each line is answered in one step at one moment; then the
-- session's queues are pumped.
use Rattle.std.specs.Prelude.{◌≡◌, ℕ, List, [], ◌∷◌, ◌++◌, if◌then◌else◌, Bool, true, false, not, ◌&&◌, Option, Some, None, unwrap_or, Result, Ok, Err}
use Rattle.std.specs.Option.{option_map_or}
use Rattle.std.specs.Result.{is_ok, result_ok}
use Rattle.sdb_oplog.specs.declared.codes.Code.{Code}
use Rattle.sdb_oplog.specs.declared.codes.Code.TheVariants.{E1, E9, E10, E11}
use Rattle.sdb_oplog.specs.Plain.{PlainEntry, PlainSubmission}
use Rattle.sdb_oplog.specs.Keys.{PlainKey, with_log, no_logs}
use Rattle.sdb_oplog.specs.Decide.{PlainReply, refused, decide, decide_allocates}
use Rattle.sdb_subscribe.specs.Queue.{take_result_by, queues_after_take_by}
use Rattle.sdb_desk.specs.Machine.{Machine, PlainSubscribeResult, SubscribeStep, subscribe_step, queue_start, fetch_result, operations_from, snapshot_at, fetch_at_moment, read_has_document, is_nonempty, read_has_version, QueuesByKey, no_queues, with_queues, close_queue}
use Rattle.sdb_projection.specs.Table.{PlainProjection}
use Rattle.sdb_wire.specs.Wire.{PlainEcho, empty_echo, parse_message, PlainRequest, hello, fetch, subscribe, unsubscribe, submit, snapshot, snapshot_at_time}
use Rattle.sdb_wire.specs.Answers.{PlainAnswer, init, failed}
use Rattle.sdb_session.specs.ProjectionModel.{base_key, projection_of_key, is_permitted}
use Rattle.sdb_session.specs.Sessions.{QueueId, PlainSubscription, PlainSession, queue_of, is_subscription_full}
use Rattle.sdb_session.specs.Output.{answer_lines}
use Rattle.sdb_session.specs.Responses.{ReadResult, RequestResult, PlainSubscribeReply, submission_of, first_batch_len, Response, response_of}
use Rattle.sdb_session.specs.PumpModel.{PlainTake, pump_answers}

-- the machine and the session
pub record State : Type 0 where
  pub machine : Machine
  pub session : PlainSession

-- the answers of a step and the state after it
pub record Transition : Type 0 where
  pub answers : List PlainAnswer
  pub state : State

-- whether the allocations of a request succeed
pub data Allocation : Type 0 where
  ok : Allocation
  -- an allocation failed and nothing changed
  failed_before : Allocation
  -- an allocation failed after the queue was opened: its number is used up, and it is closed
  failed_after_open : Allocation

-- ---- the calls of the machine, for a session that is alone with it

abbrev pub pass_zero : ℕ
pass_zero = 0

abbrev pub with_machine_queues : Machine → QueuesByKey → Machine
with_machine_queues m qs = record { logs = m.logs; queues = qs }

-- opening a queue of the document, from the given version or the current one
abbrev pub subscribe_step_at : Machine → PlainKey → Option ℕ → SubscribeStep
subscribe_step_at m b v = subscribe_step (m.logs b) pass_zero v (m.queues b)

abbrev pub machine_after_open : Machine → PlainKey → Option ℕ → Machine
machine_after_open m b v = with_machine_queues m (with_queues m.queues b (subscribe_step_at m b v).queues)

-- the next entries of a queue
abbrev pub next_entries : Machine → QueueId → ℕ → List PlainEntry
next_entries m q max = unwrap_or (take_result_by (m.logs q.base) pass_zero q.id max (m.queues q.base).queues) []

abbrev pub machine_after_take : Machine → QueueId → ℕ → Machine
machine_after_take m q max =
    with_machine_queues m
    (with_queues m.queues q.base
    (record {
      next = (m.queues q.base).next;
      queues = queues_after_take_by (m.logs q.base) pass_zero q.id max (m.queues q.base).queues;
    }))

-- the given queue, if any, is closed
abbrev pub machine_after_close : Option QueueId → Machine → Machine
machine_after_close None m = m
machine_after_close (Some q) m = with_machine_queues m (with_queues m.queues q.base (close_queue pass_zero q.id (m.queues q.base)))

-- ---- one message

abbrev pub read_result : List PlainEntry → (v : Option ℕ) → ReadResult v
read_result log None = Ok (fetch_result log)
read_result log (Some v) = operations_from log v

abbrev pub decide_result : Bool → Machine → PlainKey → PlainSubmission → ℕ → (PlainReply × Machine)
decide_result true m b s now = (
  (decide (m.logs b) s now).reply,
  record { logs = with_log m.logs b (decide (m.logs b) s now).log; queues = m.queues },
)
decide_result false m b s now = (refused E9, m)

-- a queue is opened, its entries up to the current version are read, and the old queue of the key is closed
abbrev pub subscribe_result : Machine → PlainKey → Option ℕ → Option QueueId → Result PlainSubscribeResult Code
    → (Result PlainSubscribeReply Code × Machine)
subscribe_result m b v old (Ok o) = (
  Ok (record {
    opened = o;
    first = next_entries (machine_after_open m b v) (record { base = b; id = o.id }) (first_batch_len v o.version);
  }),
  machine_after_close old (machine_after_take (machine_after_open m b v) (record { base = b; id = o.id }) (first_batch_len v o.version)),
)
subscribe_result m b v old (Err code) = (Err code, m)

-- the refusal of a new key by a full session
abbrev pub limit_code_at : Result ℕ Code → Code
limit_code_at (Ok v) = E11
limit_code_at (Err code) = code

abbrev pub subscribe_or_refuse : Bool → Machine → PlainKey → Option ℕ → Option QueueId → (Result PlainSubscribeReply Code × Machine)
subscribe_or_refuse true m b v old = (Err (limit_code_at (queue_start (m.logs b) v)), m)
subscribe_or_refuse false m b v old = subscribe_result m b v old (subscribe_step_at m b v).answer

-- the machine's reply and the machine after it
abbrev pub machine_reply : List PlainProjection → State → ℕ → (r : PlainRequest) → (RequestResult r × Machine)
machine_reply t s now (hello n) = (tt, s.machine)
machine_reply t s now (fetch k v) = (read_result (s.machine.logs (base_key t k)) v, s.machine)
machine_reply t s now (submit k v n src c) =
    decide_result (is_permitted (projection_of_key t k) c) s.machine (base_key t k) (submission_of s.session k v n src c 0) now
machine_reply t s now (snapshot k v n) = (snapshot_at (s.machine.logs (base_key t k)) v, s.machine)
machine_reply t s now (snapshot_at_time k m n) = (Ok (fetch_at_moment (s.machine.logs (base_key t k)) m), s.machine)
machine_reply t s now (subscribe k v) =
    subscribe_or_refuse (is_subscription_full k s.session.subs) s.machine (base_key t k) v (queue_of k s.session.subs)
machine_reply t s now (unsubscribe k) = (tt, machine_after_close (queue_of k s.session.subs) s.machine)

-- the transition of a request, from the session's response to the reply
abbrev pub transition_of_reply : Response → Machine → Transition
transition_of_reply u m = record { answers = u.answers; state = record { machine = m; session = u.session } }

abbrev pub transition_of_request : List PlainProjection → PlainEcho → State → ℕ → PlainRequest → Transition
transition_of_request t e s now r = transition_of_reply (response_of e t s.session r (machine_reply t s now r).0) (machine_reply t s now r).1

-- ---- allocation failures

-- whether the machine opens a queue for the session
abbrev pub opens_queue : List PlainProjection → State → PlainKey → Option ℕ → Bool
opens_queue t s k v =
    not (is_subscription_full k s.session.subs) && is_ok (subscribe_step_at s.machine (base_key t k) v).answer

-- whether a fetch allocates, because it copies a document or entries
abbrev pub reading_allocates : List PlainEntry → Option ℕ → Bool
reading_allocates log None = read_has_document (fetch_result log)
reading_allocates log (Some v) = option_map_or is_nonempty (result_ok (operations_from log v)) false

-- whether the machine's call for a request allocates
abbrev pub request_allocates : List PlainProjection → State → PlainRequest → Bool
request_allocates t s (hello n) = false
request_allocates t s (fetch k v) = reading_allocates (s.machine.logs (base_key t k)) v
request_allocates t s (submit k v n src c) =
    is_permitted (projection_of_key t k) c
    && decide_allocates (s.machine.logs (base_key t k)) (submission_of s.session k v n src c 0)
request_allocates t s (snapshot k v n) =
    option_map_or read_has_version (result_ok (snapshot_at (s.machine.logs (base_key t k)) v)) false
request_allocates t s (snapshot_at_time k m n) = read_has_version (fetch_at_moment (s.machine.logs (base_key t k)) m)
request_allocates t s (subscribe k v) = opens_queue t s k v
request_allocates t s (unsubscribe k) = false

-- the machine after an allocation failed with the new queue open
abbrev pub machine_after_failed_open : Machine → PlainKey → Option ℕ → Machine
machine_after_failed_open m b v =
    machine_after_close (Some (record { base = b; id = (m.queues b).next })) (machine_after_open m b v)

-- the answer E10, which leaves the session unchanged
abbrev pub out_of_memory_transition : PlainEcho → State → Machine → Transition
out_of_memory_transition e s m =
    record { answers = failed e E10 ∷ []; state = record { machine = m; session = s.session } }

abbrev pub transition_after_open : List PlainProjection → PlainEcho → State → ℕ → PlainRequest → Transition
transition_after_open t e s now (subscribe k v) =
    if opens_queue t s k v then out_of_memory_transition e s (machine_after_failed_open s.machine (base_key t k) v)
    else transition_of_request t e s now (subscribe k v)
transition_after_open t e s now r = transition_of_request t e s now r

-- the transition of a request for each outcome of its allocations
abbrev pub transition_with_allocation : Allocation → List PlainProjection → PlainEcho → State → ℕ → PlainRequest → Transition
transition_with_allocation ok t e s now r = transition_of_request t e s now r
transition_with_allocation failed_before t e s now r =
    if request_allocates t s r then out_of_memory_transition e s s.machine else transition_of_request t e s now r
transition_with_allocation failed_after_open t e s now r = transition_after_open t e s now r

-- ---- one line

abbrev pub transition_of_message : List PlainProjection → State → ℕ → Allocation → PlainEcho → Result PlainRequest Code
    → Transition
transition_of_message t s now w e (Ok r) = transition_with_allocation w t e s now r
transition_of_message t s now w e (Err code) = record { answers = failed e code ∷ []; state = s }

-- the transition of a line, or of one that isn't UTF-8 or is too long
abbrev pub transition_of_line : List PlainProjection → State → ℕ → Allocation → Option (List ℕ) → Transition
transition_of_line t s now w (Some line) = transition_of_message t s now w (parse_message line).echo (parse_message line).request
transition_of_line t s now w None = record { answers = failed empty_echo E1 ∷ []; state = s }

-- ---- pumps

-- maximum number of entries read from one queue after a line
abbrev pub take_limit : ℕ
take_limit = 64

abbrev pub pump_takes : List PlainSubscription → Machine → List PlainTake
pump_takes [] m = []
pump_takes (s ∷ subs) m =
    record { sub = s; entries = next_entries m s.queue take_limit } ∷ pump_takes subs (machine_after_take m s.queue take_limit)

abbrev pub machine_after_pump : List PlainSubscription → Machine → Machine
machine_after_pump [] m = m
machine_after_pump (s ∷ subs) m = machine_after_pump subs (machine_after_take m s.queue take_limit)

-- the entries of each queue in order, except the session's own
abbrev pub pump_transition : List PlainProjection → State → Transition
pump_transition t s = record {
  answers = pump_answers t pass_zero s.session.source (pump_takes s.session.subs s.machine);
  state = record { machine = machine_after_pump s.session.subs s.machine; session = s.session };
}

-- ---- the dialogue

-- the line is answered, then the queues are pumped
abbrev pub line_transition : List PlainProjection → State → ℕ → Allocation → Option (List ℕ) → Transition
line_transition t s now w line = record {
  answers = (transition_of_line t s now w line).answers ++ (pump_transition t (transition_of_line t s now w line).state).answers;
  state = (pump_transition t (transition_of_line t s now w line).state).state;
}

-- `Dialogue`: in a state, a line at a moment is answered by these bytes, and the new state follows
pub record Dialogue (t : List PlainProjection) (old : State) (now : ℕ) (line : Option (List ℕ)) (bytes : List ℕ) (new : State)
    : Type 0 where
  pub memory : Allocation
  pub written : bytes ≡ answer_lines (line_transition t old now memory line).answers
  pub left : new ≡ (line_transition t old now memory line).state

-- ---- the first state

abbrev pub first_state : List ℕ → State
first_state source =
    record {
      machine = record { logs = no_logs; queues = λ k. no_queues };
      session = record { source = source; subs = [] };
    }

abbrev pub opening : List ℕ → List ℕ
opening source = answer_lines (init source ∷ [])
