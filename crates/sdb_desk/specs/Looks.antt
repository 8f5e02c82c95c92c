-- Looks at a log or at a prefix of it, and parts of them.
use Rattle.std.specs.Prelude.{◌≡◌, ◌<◌, ◌≤◌, ℕ, List, ◌++◌, length, take, drop}
use Rattle.sdb_oplog.specs.Decide.{missed_entries}
use Rattle.sdb_oplog.specs.Plain.{PlainEntry, PlainSubmission}
use Rattle.sdb_desk.specs.Machine.{PlainAttempt, look_at, look_after}
use Rattle.sdb_desk.specs.View.{plain_look}
use Rattle.sdb_desk.specs.declared.work.LookPart.{LookPart}
use Rattle.sdb_desk.specs.declared.work.LookPart.TheVariants.{Last, Entries}

-- the attempt's look is a look at the prefix of the log with the look's version
pub record IsLook (log : List PlainEntry) (a : PlainAttempt) : Type 0 where
  pub within : a.look.version ≤ length log
  pub is : a.look ≡ look_at (take a.look.version log) a.submission

-- the submission's missed entries begin with these
abbrev pub AreFirstMissed : List PlainEntry → PlainSubmission → List PlainEntry → Type 0
AreFirstMissed log s first = (more : List PlainEntry) × (missed_entries log s ≡ first ++ more)

-- a part of the look, for a caller that has its first `known` missed entries: the look without them, if at most `max`
-- others are left; otherwise the first `max` of these
abbrev pub IsLookPart : List PlainEntry → PlainSubmission → ℕ → ℕ → LookPart → Type 0
IsLookPart log s known max (Last l) =
    (length (drop known (missed_entries log s)) ≤ max) × (plain_look l ≡ look_after known (look_at log s))
IsLookPart log s known max (Entries es) =
    (max < length (drop known (missed_entries log s))) × (es.items ≡ take max (drop known (missed_entries log s)))
