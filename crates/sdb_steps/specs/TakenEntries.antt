-- Answers to the takes of a session, concatenated.
use Rattle.std.specs.Prelude.{◌≡◌, ℕ, List, [], ◌∷◌, ◌++◌, cond, nat_eq, Ok, IfSome}
use Rattle.sdb_oplog.specs.Plain.{PlainEntry}
use Rattle.sdb_oplog.specs.Keys.{PlainKey, Logs, keys_equal}
use Rattle.sdb_subscribe.specs.Queue.{queue}
use Rattle.sdb_steps.specs.OneStep.{subscribed, taken}
use Rattle.sdb_steps.specs.Picks as plain
use Rattle.sdb_steps.specs.Picks.{SessionStates, StepKind, PlainSessionStep, PlainStepAnswer, reply_answer}

-- a session's entries of k after one more step; a new queue starts with none
abbrev pub taken_after_step : PlainKey → StepKind → PlainStepAnswer → List PlainEntry → List PlainEntry
taken_after_step k (plain.subscribe q v) (reply_answer (subscribed (Ok start))) es = cond (keys_equal q k) [] es
taken_after_step k (plain.take q max) (reply_answer (taken new)) es = cond (keys_equal q k) (es ++ new) es
taken_after_step k act answer es = es

abbrev pub taken_from : ℕ → PlainKey → List PlainEntry → List PlainSessionStep → List PlainStepAnswer → List PlainEntry
taken_from n k es [] answers = es
taken_from n k es (s ∷ steps) [] = es
taken_from n k es (s ∷ steps) (a ∷ answers) = taken_from n k (cond (nat_eq s.session n) (taken_after_step k s.act a es) es) steps answers

-- the entries that session n's takes of k returned since its queue was opened
abbrev pub taken_entries : ℕ → PlainKey → List PlainSessionStep → List PlainStepAnswer → List PlainEntry
taken_entries n k = taken_from n k []

-- each open queue has read the entries from its start on, in order and without gaps
abbrev pub QueuesTakeAll : List PlainSessionStep → List PlainStepAnswer → SessionStates → Logs → Type 0
QueuesTakeAll steps answers w logs =
    (n : ℕ) (k : PlainKey) → IfSome ((w n).queues k) (λ q. taken_entries n k steps answers ≡ queue (logs k) q.start q.taken)
