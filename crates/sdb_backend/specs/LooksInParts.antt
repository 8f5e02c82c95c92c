-- Looks whose missed entries are copied in parts, each at a history of its own.
use Rattle.std.specs.Prelude.{◌≡◌, ◌≢◌, ℕ, List, true, length, Option, Some, None, Result, Ok, Err}
use Rattle.std.specs.declared.alloc.AllocError.{AllocError}
use Rattle.sdb_oplog.specs.Keys.{PlainKey}
use Rattle.sdb_oplog.specs.Plain.{PlainEntry, PlainSubmission}
use Rattle.sdb_desk.specs.Looks.{IsLook, IsLookPart, AreFirstMissed}
use Rattle.sdb_desk.specs.Machine.{PlainAttempt, IsUnchanged, look_allocates}
use Rattle.sdb_desk.specs.ShardView.{machine_of, logs_of}
use Rattle.sdb_desk.specs.View.{outcome_of_decision}
use Rattle.sdb_desk.specs.declared.shard.CommitDecision.{CommitDecision}
use Rattle.sdb_desk.specs.declared.work.LookPart.{LookPart}
use Rattle.sdb_submit.specs.Calls.{commit, MachineStep}
use Rattle.sdb_backend.specs.PassModel.{PassHasSeen}
use Rattle.sdb_backend.specs.UnsavedEntries.{unsaved_of, UnsavedAfterOutcome}
use Rattle.sdb_backend.specs.declared.pass.Pass.{Pass}
use Rattle.sdb_backend.specs.declared.shard_value.Held.{Held}

-- a part of a look, or its allocation failed
abbrev pub IsLookPartOrError : List PlainEntry → PlainSubmission → ℕ → ℕ → Result LookPart AllocError → Type 0
IsLookPartOrError log s known max (Ok part) = IsLookPart log s known max part
IsLookPartOrError log s known max (Err e) = look_allocates log s ≡ true

-- the submission's missed entries begin with these, in the history that the pass has observed
abbrev pub KnowsFirstMissed : Pass → PlainKey → PlainSubmission → List PlainEntry → Type 0
KnowsFirstMissed p k s first = (x : Held) → PassHasSeen p k x → AreFirstMissed (logs_of x.shard k) s first

-- the log has grown since the look of the attempt
pub record HasGrown (log : List PlainEntry) (a : PlainAttempt) : Type 0 where
  pub look : IsLook log a
  pub grown : length log ≢ a.look.version

-- the log that the pass has observed has grown since the look of the attempt
abbrev pub IsLookOutdatedFor : Pass → PlainKey → PlainAttempt → Type 0
IsLookOutdatedFor p k a = (x : Held) × PassHasSeen p k x × HasGrown (logs_of x.shard k) a

-- a commit decides, or the log has grown (`None`) and nothing changes
abbrev pub CommitsIfCurrent : ℕ → PlainKey → PlainAttempt → ℕ → Option CommitDecision → Held → Held → Type 0
CommitsIfCurrent by k a now (Some d) old new =
    MachineStep by (machine_of old.shard) k (commit a now) (outcome_of_decision a d) (machine_of new.shard)
    × UnsavedAfterOutcome k (outcome_of_decision a d) (unsaved_of old) (unsaved_of new)
CommitsIfCurrent by k a now None old new = HasGrown (logs_of old.shard k) a × IsUnchanged (machine_of old.shard) (machine_of new.shard)
