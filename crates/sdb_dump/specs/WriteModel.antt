-- The output of a dump.
use Rattle.std.specs.Prelude.{◌≡◌, ℕ, ◌⊎◌, List, [], ◌++◌, length, map, Option}
use Rattle.std.specs.Io.KnownBytes.{Appends}
use Rattle.sdb_desk.specs.StoredKeys.{IsKeyList}
use Rattle.sdb_lines.specs.Prefixes.{AppendsPrefix}
use Rattle.sdb_oplog.specs.Keys.{PlainKey, Logs}
use Rattle.sdb_oplog.specs.Plain.{PlainEntry}
use Rattle.sdb_dump.specs.DumpText.{entry_line, ended_lines}
use Rattle.sdb_dump.specs.LogListing.{lines_of_log, lines_of_logs, DumpText}

-- the lines of the log of a key
abbrev pub log_text : PlainKey → List PlainEntry → List ℕ
log_text k es = ended_lines (map entry_line (lines_of_log k es))

-- the lines of the logs of these keys
abbrev pub logs_text : Logs → List PlainKey → List ℕ
logs_text f ks = ended_lines (map entry_line (lines_of_logs f ks))

-- the output is extended by a prefix of `all`, and `left` is the rest
pub record WroteUpTo (old new : Option (List ℕ)) (all left : List ℕ) : Type 0 where
  pub written : List ℕ
  pub wrote : Appends old new written
  pub parts : all ≡ written ++ left

-- the output is extended by the dump of these logs
abbrev pub WroteDump : Logs → Option (List ℕ) → Option (List ℕ) → Type 0
WroteDump f old new = (text : List ℕ) × DumpText f text × Appends old new text

-- the output is unchanged or extended by a prefix of the dump
abbrev pub WroteDumpPrefix : Logs → Option (List ℕ) → Option (List ℕ) → Type 0
WroteDumpPrefix f old new = Appends old new [] ⊎ ((text : List ℕ) × DumpText f text × AppendsPrefix old new text)

-- the number of entries of all logs
abbrev pub HasEntryCount : Logs → ℕ → Type 0
HasEntryCount f n = (ks : List PlainKey) × IsKeyList f ks × (n ≡ length (lines_of_logs f ks))
