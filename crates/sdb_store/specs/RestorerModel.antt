-- The documents and the highest number that a restorer has restored.
use Rattle.std.specs.Prelude.{◌≡◌, ◌⊎◌, ℕ, ◌+◌, ◌<◌, ◌≤◌, List, [], ◌∷◌, ◌++◌, max, Bool, true, false, Option, Some, None, IfSome, option_map}
use Rattle.std.specs.Option.{option_map_or}
use Rattle.sdb_oplog.specs.Plain.{PlainEntry}
use Rattle.sdb_oplog.specs.Keys.{PlainKey, Logs, with_log}
use Rattle.sdb_desk.specs.ShardView.{logs_of}
use Rattle.sdb_dump.specs.DumpLine.{PlainLineContent, read_line}
use Rattle.sdb_dump.specs.DumpText.{entry_line, entry_of_read}
use Rattle.sdb_backend.specs.HistoryOrder.{IsExtension}
use Rattle.sdb_backend.specs.PassModel.{next_pass_number, IsHostOfBackend, PassHasSeen, HostHasSeenLogs, HasSeenHostHistories}
use Rattle.sdb_backend.specs.RestorationModel.{restored_logs, HasNoShare}
use Rattle.sdb_backend.specs.declared.pass.Host.{Host}
use Rattle.sdb_backend.specs.declared.pass.Pass.{Pass}
use Rattle.sdb_backend.specs.declared.shard_value.Held.{Held}
use Rattle.sdb_dump.specs.JournalText.{JournalItem, logs_of_items, highest_number as highest_item_number, accepted_item, read_number}
use Rattle.sdb_dump.specs.StoreMachine.{IsIn}
use Rattle.sdb_store.specs.declared.restorer.Restorer.{Restorer}
use Rattle.sdb_store.specs.declared.restorer.RestoredBackend.{RestoredBackend}

-- the log of each key
abbrev pub restorer_logs : Restorer → Logs
restorer_logs r = restored_logs r.restoration

-- the highest number that a restored line names, or 0
abbrev pub highest_number : Restorer → ℕ
highest_number r = r.highest

-- each entry was submitted under a number from 1 to the highest one
pub record IsRestorer (r : Restorer) : Type 0 where
  pub zero : HasNoShare 0 r.restoration
  pub above : (n : ℕ) → highest_number r < n → HasNoShare n r.restoration

-- logs get longer, and the highest number doesn't decrease
pub record RestorerGrows (old new : Restorer) : Type 0 where
  pub highest : highest_number old ≤ highest_number new
  pub logs : (k : PlainKey) → IsExtension (restorer_logs new k) (restorer_logs old k)

-- ---- one more line

-- the entry of the line is the last one of its key's log, and other logs are unchanged; or there is no such entry
abbrev pub AppendsEntry : List ℕ → PlainLineContent → Logs → Logs → Bool → Type 0
AppendsEntry line r old new true =
    (e : PlainEntry) × (entry_of_read (old r.key) line r ≡ Some (record { key = r.key; entry = e }))
    × (new ≡ with_log old r.key (old r.key ++ e ∷ []))
AppendsEntry line r old new false = entry_of_read (old r.key) line r ≡ None

-- the line is one of a block, and the highest number is at least its number
abbrev pub IsNumberRestored : Option ℕ → ℕ → ℕ → Type 0
IsNumberRestored number old new = (n : ℕ) × (number ≡ Some n) × (new ≡ max old n)

-- ---- the items of a journal

-- the restorer has restored these items of a journal
pub record HasRestored (r : Restorer) (xs : List JournalItem) : Type 0 where
  pub logs : restorer_logs r ≡ logs_of_items xs
  pub highest : highest_number r ≡ highest_item_number xs

-- the restorer has restored these items and that of the line
pub record HasRestoredLine (r : Restorer) (xs : List JournalItem) (line : List ℕ) : Type 0 where
  pub item : JournalItem
  pub accepted : accepted_item xs line ≡ Some item
  pub restored : HasRestored r (xs ++ item ∷ [])

-- no item after these has this line, or the line is that of an entry with number 0
abbrev pub IsWrongLine : List JournalItem → List ℕ → Type 0
IsWrongLine xs line = (accepted_item xs line ≡ None) ⊎ (option_map (λ r. r.submission.by) (read_line line) ≡ Some 0)

-- ---- lines

-- a log has the entry of this line
pub record HasLineIn (log : List PlainEntry) (k : PlainKey) (line : List ℕ) : Type 0 where
  pub entry : PlainEntry
  pub stored : IsIn entry log
  pub line_is : line ≡ entry_line (record { key = k; entry = entry })

-- the log of the key has the entry of this line
abbrev pub HasStoredLine : Restorer → PlainKey → List ℕ → Type 0
HasStoredLine r k line = HasLineIn (restorer_logs r k) k line

-- the number that a line names: that of the pass which submitted an entry, or the last one of a block
abbrev pub number_of_line : List ℕ → Option ℕ
number_of_line line = option_map_or (λ r. Some r.submission.by) (read_line line) (read_number line)

-- the highest number is at least the line's, and the entry of the line is stored
pub record HasContentOfLine (r : Restorer) (line : List ℕ) : Type 0 where
  pub number : IfSome (number_of_line line) (λ n. n ≤ highest_number r)
  pub stored : IfSome (read_line line) (λ content. HasStoredLine r content.key line)

-- the entry of a restored line is stored, and the item of the line is the next one of the journal
pub record RestorerAfterLine (old new : Restorer) (line : List ℕ) : Type 0 where
  pub content : HasContentOfLine new line
  pub item : (xs : List JournalItem) → HasRestored old xs → HasRestoredLine new xs line

-- the pass has observed a history that has the entry of this line
pub record HasSeenLine (p : Pass) (k : PlainKey) (line : List ℕ) : Type 0 where
  pub history : Held
  pub entry : PlainEntry
  pub seen : PassHasSeen p k history
  pub stored : IsIn entry (logs_of history.shard k)
  pub line_is : line ≡ entry_line (record { key = k; entry = entry })

-- each pass that has observed the host's histories has observed the entry of each stored line
abbrev pub PassesHaveSeenLines : Restorer → Host → Type 0
PassesHaveSeenLines r h = (p : Pass) (k : PlainKey) (line : List ℕ) → HasSeenHostHistories p h → HasStoredLine r k line → HasSeenLine p k line

-- the restored backend has the logs of the restorer; the numbers of its passes continue above the highest one
pub record IsBackendOfRestorer {R : Type 0} (r : Restorer) (restored : RestoredBackend R) : Type 0 where
  pub host : IsHostOfBackend restored.host restored.backend
  pub highest : restored.highest_number ≡ highest_number r
  pub has_next : next_pass_number restored.host ≡ highest_number r + 1
  pub logs : HostHasSeenLogs restored.host (restorer_logs r)
  pub seen : PassesHaveSeenLines r restored.host
