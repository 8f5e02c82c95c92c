-- Answers to takes: each continues where the last one of that session and key ended.
use Rattle.std.specs.Prelude.{◌≡◌, ◌≤◌, ℕ, ◌+◌, List, [], ◌∷◌, length, cond, nat_eq, Option, Some, None, option_map, Ok, IfSome, ⊤}
use Rattle.sdb_oplog.specs.Plain.{PlainEntry}
use Rattle.sdb_oplog.specs.Keys.{PlainKey, Logs, keys_equal}
use Rattle.sdb_subscribe.specs.Queue.{queue}
use Rattle.sdb_steps.specs.QueuePosition.{QueuePosition}
use Rattle.sdb_steps.specs.OneStep.{subscribed, taken}
use Rattle.sdb_steps.specs.Picks as plain
use Rattle.sdb_steps.specs.Picks.{StepKind, PlainSessionStep, PlainStepAnswer, reply_answer, notice_answer}

-- the position after a take that returned these entries
abbrev pub position_after_take : List PlainEntry → QueuePosition → QueuePosition
position_after_take es q = record { start = q.start; taken = q.taken + length es }

-- a session's position in its queue of k after one more step
abbrev pub position_after_step : PlainKey → StepKind → PlainStepAnswer → Option QueuePosition → Option QueuePosition
position_after_step k (plain.subscribe j v) (reply_answer (subscribed (Ok start))) o =
    cond (keys_equal j k) (Some (record { start = start; taken = 0 })) o
position_after_step k (plain.take j max) (reply_answer (taken es)) o = cond (keys_equal j k) (option_map (position_after_take es) o) o
position_after_step k (plain.unsubscribe j) (notice_answer plain.unsubscribed) o = cond (keys_equal j k) None o
position_after_step k act answer o = o

-- the log's entries from the position on, at most `max`; false without a position
abbrev pub AreNextEntries : List PlainEntry → Option QueuePosition → ℕ → List PlainEntry → Type 0
AreNextEntries log (Some q) max es = (es ≡ queue log (q.start + q.taken) (length es)) × (length es ≤ max)
AreNextEntries log None max es = ⊥

-- a take continues at the position, and a queue starts within the log, at the requested version if there was one
abbrev pub ContinuesFromPosition : Logs → (PlainKey → Option QueuePosition) → StepKind → PlainStepAnswer → Type 0
ContinuesFromPosition logs f (plain.take k max) (reply_answer (taken es)) = AreNextEntries (logs k) (f k) max es
ContinuesFromPosition logs f (plain.subscribe k v) (reply_answer (subscribed (Ok start))) =
    (start ≤ length (logs k)) × IfSome v (λ n. start ≡ n)
ContinuesFromPosition logs f act answer = ⊤

-- the positions of all sessions after one more step, which changes only its own session's
abbrev pub positions_after_step : (ℕ → PlainKey → Option QueuePosition) → PlainSessionStep → PlainStepAnswer → ℕ → PlainKey → Option QueuePosition
positions_after_step f s a n k = cond (nat_eq s.session n) (position_after_step k s.act a (f n k)) (f n k)

-- all steps with their answers, from these positions on
abbrev pub ContinuedFrom : (ℕ → PlainKey → Option QueuePosition) → List PlainSessionStep → List PlainStepAnswer → Logs → Type 0
ContinuedFrom f [] answers logs = ⊤
ContinuedFrom f (s ∷ steps) [] logs = ⊤
ContinuedFrom f (s ∷ steps) (a ∷ answers) logs =
    ContinuesFromPosition logs (f s.session) s.act a × ContinuedFrom (positions_after_step f s a) steps answers logs

-- all steps with their answers, from sessions without queues on
abbrev pub TakesContinue : List PlainSessionStep → List PlainStepAnswer → Logs → Type 0
TakesContinue = ContinuedFrom (λ n k. None)
