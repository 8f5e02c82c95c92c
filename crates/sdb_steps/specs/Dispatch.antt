-- One step of one session: the attempt after it, and the machine after its effect. Contracts of private functions cite
-- these; a step of a world is `IsStep`.
use Rattle.std.specs.Prelude.{◌≡◌, ℕ, Bool, true, false, Option, Some, None}
use Rattle.sdb_oplog.specs.Plain.{PlainSubmission}
use Rattle.sdb_oplog.specs.Decide.{decide_allocates}
use Rattle.sdb_oplog.specs.Keys.{PlainKey}
use Rattle.sdb_steps.specs.OneStep.{OneStep, submission, reply_to_event, machine_after_event}
use Rattle.sdb_steps.specs.Picks.{SessionState, PlainOpenAttempt, StepKind, began, worked, moved, idle, open_attempt, mark_worked, look_again, is_deciding, PlainStepAnswer, Effect, event, notice, reply_answer, notice_answer, out_of_memory, effect, effect_allocates, new_look_allocates}

-- the answer, the machine and the session that follow from an effect
abbrev pub FollowsEffect : OneStep → Effect → PlainStepAnswer → OneStep → SessionState → Type 0
FollowsEffect m (event e y) answer n x = (answer ≡ reply_answer (reply_to_event m e)) × (n ≡ machine_after_event m e) × (x ≡ y)
FollowsEffect m (notice a y) answer n x = (answer ≡ notice_answer a) × (n ≡ m) × (x ≡ y)

-- an act of session i, by `Picks` and the machine
abbrev pub DispatchesAct : ℕ → OneStep → SessionState → StepKind → PlainStepAnswer → OneStep → SessionState → Type 0
DispatchesAct i m x act out_of_memory n y = (effect_allocates m x.attempt (effect m i x act) ≡ true) × (n ≡ m) × (y ≡ x)
DispatchesAct i m x act answer n y = FollowsEffect m (effect m i x act) answer n y

-- an attempt is opened, unless an allocation failed
abbrev pub AttemptBegins : OneStep → PlainKey → PlainSubmission → PlainStepAnswer → Option PlainOpenAttempt → Type 0
AttemptBegins m k s out_of_memory o = o ≡ None
AttemptBegins m k s (notice_answer began) o = o ≡ Some (open_attempt m k s)
AttemptBegins m k s answer o = ⊥

-- the work of an attempt is computed, once, unless an allocation failed in a work that allocates
abbrev pub AttemptWorks : Bool → PlainOpenAttempt → PlainStepAnswer → PlainOpenAttempt → Type 0
AttemptWorks allocates a out_of_memory b = (a.is_worked ≡ false) × (b ≡ a) × (allocates ≡ true)
AttemptWorks allocates a (notice_answer worked) b = (a.is_worked ≡ false) × (b ≡ mark_worked a)
AttemptWorks allocates a (notice_answer idle) b = (a.is_worked ≡ true) × (b ≡ a)
AttemptWorks allocates a answer b = ⊥

-- a commit of an attempt at a moment: it decides, or it finds a longer log, or an allocation failed and nothing changed
abbrev pub AttemptCommits : OneStep → PlainOpenAttempt → ℕ → PlainStepAnswer → OneStep → Option PlainOpenAttempt → Type 0
AttemptCommits m a now out_of_memory n o =
    (n ≡ m) × (o ≡ Some a) × (is_deciding m a ≡ true → decide_allocates (m.logs a.key) a.submission ≡ true)
    × (is_deciding m a ≡ false → new_look_allocates m a ≡ true)
AttemptCommits m a now (reply_answer r) n o =
    (is_deciding m a ≡ true) × (r ≡ reply_to_event m (submission a.key a.submission now))
    × (n ≡ machine_after_event m (submission a.key a.submission now)) × (o ≡ None)
AttemptCommits m a now (notice_answer b) n o = (is_deciding m a ≡ false) × (b ≡ moved) × (n ≡ m) × (o ≡ Some (look_again m a))
