-- A server that saves its documents never loses what a client was sent.
use Rattle.std.specs.Prelude.{◌≡◌, List, ◌++◌}
use Rattle.sdb_oplog.specs.Decide.{IsMade}
use Rattle.sdb_oplog.specs.Keys.{PlainKey}
use Rattle.sdb_dump.specs.DumpText.{PlainLine, log_of_lines}
use Rattle.sdb_dump.specs.JournalText.{entries_of, logs_of_items}
use Rattle.sdb_dump.specs.StoreMachine.{StoreState, StoreStep, new_store, after_restart, IsStoreRun, IsIn}

pub record IsDurable (s : StoreState) : Type 0 where
  -- what clients were sent is in the file
  pub sent_is_saved : (x : PlainLine) → IsIn x s.sent → IsIn x (entries_of s.file)
  -- the log of each key is that of the file, and then the entries that aren't saved
  pub log : (k : PlainKey) → s.logs k ≡ logs_of_items s.file k ++ log_of_lines s.unsaved k
  -- each log is made
  pub log_is_made : (k : PlainKey) → IsMade (s.logs k)

-- each run from an empty file is durable
abbrev pub RunsAreDurable : Type 0
RunsAreDurable = (steps : List StoreStep) (s : StoreState) → IsStoreRun steps new_store s → IsDurable s

-- after a restart the log of a key has each entry of it that a client was sent before
abbrev pub RestartsKeepSent : Type 0
RestartsKeepSent =
    (steps : List StoreStep) (s : StoreState) (x : PlainLine) → IsStoreRun steps new_store s → IsIn x s.sent
    → IsIn x.entry ((after_restart s).logs x.key)
