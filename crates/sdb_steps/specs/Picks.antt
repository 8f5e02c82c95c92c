-- The events that steps pick for the reference machine, and the answers to the other steps: `Picks`.
use Rattle.std.specs.Prelude as std
use Rattle.std.specs.Prelude.{◌≡◌, ℕ, ◌+◌, List, [], ◌∷◌, ◌++◌, flat_map, length, if◌then◌else◌, cond, nat_eq, Bool, true, false, ◌||◌, ◌&&◌, not, Option, Some, None, Result, Ok, Err}
use Rattle.std.specs.Option.{option_map_or}
use Rattle.std.specs.Result.{is_ok, result_ok}
use Rattle.sdb_oplog.specs.declared.codes.Code.{Code}
use Rattle.sdb_oplog.specs.declared.codes.Code.TheVariants.{E11}
use Rattle.sdb_oplog.specs.Plain.{PlainSubmission, PlainContent}
use Rattle.sdb_oplog.specs.Keys.{PlainKey, keys_equal}
use Rattle.sdb_oplog.specs.Decide.{decide_allocates}
use Rattle.sdb_subscribe.specs.Queue.{queue}
use Rattle.sdb_steps.specs.QueuePosition.{QueuePosition, advance_position}
use Rattle.sdb_desk.specs.Machine.{PlainAttempt, look_at, look_allocates, work_allocates, fetch_result, snapshot_at, fetch_at_moment, read_has_document, read_has_version, is_nonempty}
use Rattle.sdb_steps.specs.OneStep as machine
use Rattle.sdb_steps.specs.OneStep.{OneStep, Event, EventReply, start_result, machine_after_events}

-- ---- the state of a session

-- an attempt to store a submission
pub record PlainOpenAttempt : Type 0 where
  pub key : PlainKey
  pub submission : PlainSubmission
  -- the log's length at the latest look
  pub looked_version : ℕ
  -- the number of commits that found a longer log
  pub tries : ℕ
  pub is_worked : Bool

-- at most one attempt, and at most one queue for each key
pub record SessionState : Type 0 where
  pub attempt : Option PlainOpenAttempt
  pub queues : PlainKey → Option QueuePosition

abbrev pub empty_session : SessionState
empty_session = record { attempt = None; queues = λ k. None }

abbrev pub with_attempt : SessionState → Option PlainOpenAttempt → SessionState
with_attempt x a = record { attempt = a; queues = x.queues }

abbrev pub with_queue : SessionState → PlainKey → Option QueuePosition → SessionState
with_queue x k o = record { attempt = x.attempt; queues = λ q. cond (keys_equal k q) o (x.queues q) }

-- the sessions by number
abbrev pub SessionStates : Type 0
SessionStates = ℕ → SessionState

abbrev pub empty_sessions : SessionStates
empty_sessions n = empty_session

abbrev pub with_session : SessionStates → ℕ → SessionState → SessionStates
with_session w n x k = cond (nat_eq n k) x (w k)

-- ---- steps and answers

pub data StepKind : Type 0 where
  -- at a key: a source, a seq, an optional version and a content
  begin : PlainKey → List ℕ → ℕ → Option ℕ → PlainContent → StepKind
  work : StepKind
  -- at a moment
  commit : ℕ → StepKind
  fetch : PlainKey → StepKind
  -- at a version, or at the current one
  snapshot : PlainKey → Option ℕ → StepKind
  -- at a moment, or at the current version
  snapshot_at_time : PlainKey → Option ℕ → StepKind
  subscribe : PlainKey → Option ℕ → StepKind
  take : PlainKey → ℕ → StepKind
  unsubscribe : PlainKey → StepKind
  forget : PlainKey → StepKind

-- a step of one session
pub record PlainSessionStep : Type 0 where
  pub session : ℕ
  pub act : StepKind

-- the answer to a step that is no event
pub data Notice : Type 0 where
  began : Notice
  worked : Notice
  moved : Notice
  unsubscribed : Notice
  forgotten : Notice
  idle : Notice
  -- E11 for a subscribe
  full : Notice

pub data PlainStepAnswer : Type 0 where
  -- the machine's reply to the event of the step
  reply_answer : EventReply → PlainStepAnswer
  -- the step is no event
  notice_answer : Notice → PlainStepAnswer
  -- E10: an allocation failed
  out_of_memory : PlainStepAnswer

abbrev pub reply_in : PlainStepAnswer → List EventReply
reply_in (reply_answer r) = r ∷ []
reply_in (notice_answer a) = []
reply_in out_of_memory = []

abbrev pub replies_in : List PlainStepAnswer → List EventReply
replies_in answers = flat_map reply_in answers

-- ---- one step of one session, for the machine m

pub data Effect : Type 0 where
  -- an event, whose reply is the answer, and the session after it
  event : Event → SessionState → Effect
  -- no event, a notice, and the session after it
  notice : Notice → SessionState → Effect

-- the submission of session n, through the collection's own name
abbrev pub submission_of_begin : ℕ → PlainKey → List ℕ → ℕ → Option ℕ → PlainContent → PlainSubmission
submission_of_begin n k src seq v content =
    record { src = src; seq = seq; version = v; content = content; via = k.collection; by = n }

-- a new attempt; its look is at the current log
abbrev pub open_attempt : OneStep → PlainKey → PlainSubmission → PlainOpenAttempt
open_attempt m k s = record { key = k; submission = s; looked_version = length (m.logs k); tries = 0; is_worked = false }

abbrev pub mark_worked : PlainOpenAttempt → PlainOpenAttempt
mark_worked a = record { key = a.key; submission = a.submission; looked_version = a.looked_version; tries = a.tries; is_worked = true }

-- the attempt with a new look, after one more try
abbrev pub look_again : OneStep → PlainOpenAttempt → PlainOpenAttempt
look_again m a =
    record {
      key = a.key;
      submission = a.submission;
      looked_version = length (m.logs a.key);
      tries = a.tries + 1;
      is_worked = false;
    }

-- a commit decides if the log hasn't grown since the look, and on the ninth try
abbrev pub is_deciding : OneStep → PlainOpenAttempt → Bool
is_deciding m a = nat_eq (length (m.logs a.key)) a.looked_version || nat_eq a.tries 8

-- a deciding commit submits at its moment and closes the attempt; any other takes a new look
abbrev pub commit_effect : OneStep → SessionState → ℕ → PlainOpenAttempt → Effect
commit_effect m x now a =
    if is_deciding m a then event (machine.submission a.key a.submission now) (with_attempt x None)
    else notice moved (with_attempt x (Some (look_again m a)))

-- a queue that starts replaces the session's queue of that key
abbrev pub subscribe_effect : SessionState → PlainKey → Option ℕ → Result ℕ Code → Effect
subscribe_effect x k v (Ok start) = event (machine.subscribe k v) (with_queue x k (Some (record { start = start; taken = 0 })))
subscribe_effect x k v (Err E11) = notice full x
subscribe_effect x k v (Err code) = event (machine.subscribe k v) x

-- a read from the queue's position on
abbrev pub take_effect : OneStep → SessionState → PlainKey → ℕ → QueuePosition → Effect
take_effect m x k max q =
    event (machine.take_from k (q.start + q.taken) max) (with_queue x k (Some (advance_position (m.logs k) max q)))

-- the effect of this act of session n
abbrev pub effect : OneStep → ℕ → SessionState → StepKind → Effect
effect m n x (begin k src seq v content) =
    option_map_or (λ a. notice idle x) x.attempt
    (notice began (with_attempt x (Some (open_attempt m k (submission_of_begin n k src seq v content)))))
effect m n x work =
    option_map_or (λ a. if a.is_worked then notice idle x else notice worked (with_attempt x (Some (mark_worked a)))) x.attempt
    (notice idle x)
effect m n x (commit now) = option_map_or (commit_effect m x now) x.attempt (notice idle x)
effect m n x (fetch k) = event (machine.fetch k) x
effect m n x (snapshot k v) = event (machine.snapshot k v) x
effect m n x (snapshot_at_time k t) = event (machine.snapshot_at_time k t) x
effect m n x (subscribe k v) = subscribe_effect x k v (start_result m k v)
effect m n x (take k max) = option_map_or (take_effect m x k max) (x.queues k) (notice idle x)
effect m n x (unsubscribe k) = option_map_or (λ q. notice unsubscribed (with_queue x k None)) (x.queues k) (notice idle x)
effect m n x (forget k) = notice forgotten x

-- ---- possible allocation failures

-- the attempt with its look, at a prefix of the log
abbrev pub attempt_with_look : OneStep → PlainOpenAttempt → PlainAttempt
attempt_with_look m a =
    record { submission = a.submission; look = look_at (std.take a.looked_version (m.logs a.key)) a.submission }

-- whether the attempt's work allocates
abbrev pub attempt_work_allocates : OneStep → PlainOpenAttempt → Bool
attempt_work_allocates m a = work_allocates (attempt_with_look m a)

-- whether a commit that finds a longer log allocates: for its new look, and for the work if the attempt has none
abbrev pub new_look_allocates : OneStep → PlainOpenAttempt → Bool
new_look_allocates m a = look_allocates (m.logs a.key) a.submission || (not a.is_worked && attempt_work_allocates m a)

-- whether a step with this notice allocates, for the session's attempt before it; a begin copies its submission
abbrev pub notice_allocates : OneStep → Option PlainOpenAttempt → Notice → Bool
notice_allocates m o began = true
notice_allocates m o worked = option_map_or (attempt_work_allocates m) o false
notice_allocates m o moved = option_map_or (new_look_allocates m) o false
notice_allocates m o idle = false
notice_allocates m o unsubscribed = false
notice_allocates m o forgotten = false
notice_allocates m o full = false

-- whether a step with this effect allocates, for the session's attempt before it; a duplicate, E4, E11, a create on an
-- existing document and empty reads don't
abbrev pub effect_allocates : OneStep → Option PlainOpenAttempt → Effect → Bool
effect_allocates m o (event (machine.submission k s now) x) = decide_allocates (m.logs k) s
effect_allocates m o (event (machine.fetch k) x) = read_has_document (fetch_result (m.logs k))
effect_allocates m o (event (machine.snapshot k v) x) = option_map_or read_has_version (result_ok (snapshot_at (m.logs k) v)) false
effect_allocates m o (event (machine.snapshot_at_time k t) x) = read_has_version (fetch_at_moment (m.logs k) t)
effect_allocates m o (event (machine.subscribe k v) x) = is_ok (start_result m k v)
effect_allocates m o (event (machine.take_from k from max) x) = is_nonempty (queue (m.logs k) from max)
effect_allocates m o (notice a x) = notice_allocates m o a

-- ---- runs

-- the answer to an effect, its events (none or one), and the session after it
abbrev pub IsEffectOutcome : Effect → PlainStepAnswer → List Event → SessionState → Type 0
IsEffectOutcome (event e y) answer events x = (r : EventReply) × (answer ≡ reply_answer r) × (events ≡ e ∷ []) × (x ≡ y)
IsEffectOutcome (notice a y) answer events x = (answer ≡ notice_answer a) × (events ≡ []) × (x ≡ y)

-- one step; if an allocation fails, it is no event and changes nothing
abbrev pub PicksOne : OneStep → SessionStates → PlainSessionStep → PlainStepAnswer → List Event → SessionStates → Type 0
PicksOne m w s out_of_memory events v =
    (effect_allocates m (w s.session).attempt (effect m s.session (w s.session) s.act) ≡ true) × (events ≡ []) × (v ≡ w)
PicksOne m w s answer events v =
    (x : SessionState) × IsEffectOutcome (effect m s.session (w s.session) s.act) answer events x × (v ≡ with_session w s.session x)

-- steps that follow these past events, each on the machine after the events before it
abbrev pub PicksAfter : List Event → SessionStates → List PlainSessionStep → List PlainStepAnswer → List Event → SessionStates → Type 0
PicksAfter past w [] [] events v = (events ≡ past) × (v ≡ w)
PicksAfter past w [] (answer ∷ answers) events v = ⊥
PicksAfter past w (s ∷ steps) [] events v = ⊥
PicksAfter past w (s ∷ steps) (answer ∷ answers) events v =
    (more : List Event) × (mid : SessionStates) × PicksOne (machine_after_events machine.empty_machine past) w s answer more mid
    × PicksAfter (past ++ more) mid steps answers events v

-- these steps with these answers pick these events and end with these sessions
abbrev pub Picks : List PlainSessionStep → List PlainStepAnswer → List Event → SessionStates → Type 0
Picks = PicksAfter [] empty_sessions
