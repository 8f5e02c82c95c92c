-- Open attempts and their looks.
use Rattle.std.specs.Prelude.{ℕ, List, Option, Some, None, slice_get}
use Rattle.sdb_oplog.specs.Keys.{Logs, plain_key}
use Rattle.sdb_desk.specs.Looks.{IsLook}
use Rattle.sdb_desk.specs.Machine.{PlainAttempt}
use Rattle.sdb_desk.specs.View.{plain_look, plain_attempt}
use Rattle.sdb_steps.specs.declared.session_data.Phase.{Phase}
use Rattle.sdb_steps.specs.declared.session_data.Phase.TheVariants.{Looked, Moved, Worked}
use Rattle.sdb_steps.specs.declared.session_data.OpenAttempt.{OpenAttempt}
use Rattle.sdb_steps.specs.declared.session_data.Session.{Session}

-- the submission with its latest look
abbrev pub attempt_in : Phase → PlainAttempt
attempt_in (Looked a) = plain_attempt a
attempt_in (Moved w l) = record { submission = w.submission; look = plain_look l }
attempt_in (Worked w) = w

-- the attempt's look is a look at its key's log, or at a prefix of it
abbrev pub HasLookAt : Logs → Option OpenAttempt → Type 0
HasLookAt logs None = Unit {0}
HasLookAt logs (Some t) = IsLook (logs (plain_key t.key)) (attempt_in t.phase)

abbrev pub SessionHasLookAt : Logs → Option Session → Type 0
SessionHasLookAt logs None = Unit {0}
SessionHasLookAt logs (Some x) = HasLookAt logs x.attempt

-- each session's attempt has such a look
abbrev pub AllHaveLookAt : Logs → List Session → Type 0
AllHaveLookAt logs sessions = (i : ℕ) → SessionHasLookAt logs (slice_get sessions i)
