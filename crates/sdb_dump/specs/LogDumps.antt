-- The accepted texts, by the logs of which they are dumps.
use Rattle.std.specs.Prelude.{◌≡◌, ℕ, List, take, Some, Ok}
use Rattle.sdb_oplog.specs.Decide.{IsMade}
use Rattle.sdb_oplog.specs.Keys.{PlainKey, Logs}
use Rattle.sdb_oplog.specs.Plain.{PlainEntry}
use Rattle.sdb_oplog.specs.Snap.{snap}
use Rattle.sdb_value.specs.Value.{Value}
use Rattle.sdb_dump.specs.DumpText.{PlainLine, log_of_lines}
use Rattle.sdb_dump.specs.DumpLaws.{AllInLimits}
use Rattle.sdb_dump.specs.LineSplit.{check_text}
use Rattle.sdb_dump.specs.LogListing.{lines_of_log, DumpText}
use Rattle.sdb_dump.specs.EntryLimits.{AllKeysInLimits}
use Rattle.sdb_dump.specs.ValueLimits.{ValueInLimits}

-- each log is made and within the limits
pub record AreDumpable (f : Logs) : Type 0 where
  pub made : (k : PlainKey) → IsMade (f k)
  pub within : (k : PlainKey) → AllInLimits (lines_of_log k (f k))

-- the document of a made log within the limits, at any version, is well formed and at most 100 deep
abbrev pub DocumentsAreBounded : Type 0
DocumentsAreBounded =
    (k : PlainKey) (log : List PlainEntry) → IsMade log → AllInLimits (lines_of_log k log)
    → (n : ℕ) (d : Value) → snap (take n log) ≡ Some (Some d) → ValueInLimits 100 d

-- the dump of such logs is accepted and gives them. An accepted text is the dump of the logs that it gives; they are
-- such logs if keys and submissions are within the limits
pub record TextIsOfLogs : Type 0 where
  pub accepted : (f : Logs) (text : List ℕ) → AreDumpable f → DumpText f text
      → (xs : List PlainLine) × (check_text text ≡ Ok xs) × ((k : PlainKey) → log_of_lines xs k ≡ f k)
  pub only : (text : List ℕ) (xs : List PlainLine) → check_text text ≡ Ok xs
      → DumpText (log_of_lines xs) text × ((k : PlainKey) → IsMade (log_of_lines xs k))
  pub within : (text : List ℕ) (xs : List PlainLine) → check_text text ≡ Ok xs → AllKeysInLimits xs
      → DumpText (log_of_lines xs) text × AreDumpable (log_of_lines xs)
