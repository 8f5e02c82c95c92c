-- The dump of logs by key.
use Rattle.std.specs.Prelude.{◌≡◌, ℕ, List, [], ◌∷◌, ◌++◌}
use Rattle.sdb_desk.specs.StoredKeys.{IsKeyList}
use Rattle.sdb_oplog.specs.Decide.{IsMade}
use Rattle.sdb_oplog.specs.Keys.{PlainKey, Logs}
use Rattle.sdb_oplog.specs.Plain.{PlainEntry}
use Rattle.sdb_dump.specs.DumpText.{PlainLine, log_of_lines, dump_text}
use Rattle.sdb_dump.specs.DumpLaws.{IsDumpOfLogs}

abbrev pub lines_of_log : PlainKey → List PlainEntry → List PlainLine
lines_of_log k [] = []
lines_of_log k (e ∷ es) = record { key = k; entry = e } ∷ lines_of_log k es

abbrev pub lines_of_logs : Logs → List PlainKey → List PlainLine
lines_of_logs f [] = []
lines_of_logs f (k ∷ ks) = lines_of_log k (f k) ++ lines_of_logs f ks

-- the text is the dump of these logs
abbrev pub DumpText : Logs → List ℕ → Type 0
DumpText f text = (ks : List PlainKey) × IsKeyList f ks × (text ≡ dump_text (lines_of_logs f ks))

-- the lines of made logs are a dump of these logs
abbrev pub LogsAreDumped : Type 0
LogsAreDumped =
    (f : Logs) (ks : List PlainKey) → IsKeyList f ks → ((k : PlainKey) → IsMade (f k))
    → IsDumpOfLogs (lines_of_logs f ks) × ((k : PlainKey) → log_of_lines (lines_of_logs f ks) k ≡ f k)
