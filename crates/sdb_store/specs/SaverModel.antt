-- What a saver has, and what a round of it writes.
use Rattle.std.specs.Prelude.{◌≡◌, ◌⊎◌, ℕ, ◌<◌, List, [], ◌++◌, map, drop, slice_get, Some, Vec}
use Rattle.std.specs.Global.{Global}
use Rattle.sdb_growlock.specs.LockRule.{ForEach}
use Rattle.sdb_oplog.specs.Plain.{PlainEntry}
use Rattle.sdb_desk.specs.ShardView.{logs_of}
use Rattle.sdb_dump.specs.DumpText.{entry_line}
use Rattle.sdb_dump.specs.ValueLimits.{IsSafeInteger}
use Rattle.sdb_backend.specs.PassModel.{IsPassOfBackend, PassHasSeen}
use Rattle.sdb_backend.specs.UnsavedEntries.{PlainEntryAt, plain_entry_at, TakesUnsaved}
use Rattle.sdb_backend.specs.declared.backend.Backend.{Backend}
use Rattle.sdb_backend.specs.declared.pass.Pass.{Pass}
use Rattle.sdb_backend.specs.declared.shard_value.Held.{Held}
use Rattle.sdb_dump.specs.JournalText.{number_line}
use Rattle.sdb_dump.specs.StoreMachine.{IsIn}
use Rattle.sdb_store.specs.declared.saver.Saver.{Saver}

-- the lines of a group
abbrev pub lines_of : List (Vec ℕ Global) → List (List ℕ)
lines_of = map (λ (line : Vec ℕ Global). line.items)

-- the pass with which the saver reads
abbrev pub saver_pass : Saver → Pass
saver_pass s = s.pass

-- the lines that are to be written
abbrev pub unwritten_lines : Saver → List (List ℕ)
unwritten_lines s = lines_of s.group.items

-- the places of taken entries that have no line yet
abbrev pub places_left : Saver → List PlainEntryAt
places_left s = map plain_entry_at (drop s.position s.taken.items)

-- numbers up to this one may be given to sessions
abbrev pub reserved_number : Saver → ℕ
reserved_number s = s.reserved

-- the block of the numbers that may be given after the next round has its line, if it isn't written
abbrev pub HasBlockLine : Saver → Type 0
HasBlockLine s = (s.group_reserved ≡ s.reserved) ⊎ IsIn (number_line s.group_reserved) (unwritten_lines s)

module _ {R : Type 0} (b : Backend R) where
  -- the line of the entry at a place, in a history that a pass of the backend has observed
  pub record IsLineAt (e : PlainEntryAt) (line : List ℕ) : Type 0 where
    pub pass : Pass
    pub is_own : IsPassOfBackend pass b
    pub history : Held
    pub seen : PassHasSeen pass e.key history
    pub entry : PlainEntry
    pub stored : slice_get (logs_of history.shard e.key) e.version ≡ Some entry
    pub line_is : line ≡ entry_line (record { key = e.key; entry = entry })

  -- the line of a block of numbers of 53 bits, or of an entry
  pub data IsJournalLine (line : List ℕ) : Type 0 where
    is_block : (n : ℕ) → IsSafeInteger n → line ≡ number_line n → IsJournalLine line
    is_entry : (e : PlainEntryAt) → IsLineAt e line → IsJournalLine line

  -- one of the lines is that of the entry at a place
  abbrev pub HasLineAt : List (List ℕ) → PlainEntryAt → Type 0
  HasLineAt lines e = (line : List ℕ) × IsLineAt e line × IsIn line lines

  -- a pass of the backend has taken the list of a shard, and each place of it has its line
  pub record TakesWithLines (lines : List (List ℕ)) (shard : ℕ) : Type 0 where
    pub before : Pass
    pub after : Pass
    pub is_own : IsPassOfBackend before b
    pub places : List PlainEntryAt
    pub takes : TakesUnsaved shard before (Some places) after
    pub lines_at : (e : PlainEntryAt) → IsIn e places → HasLineAt lines e

  -- the saver has more lines, each of which is one of a journal; a place that has no line yet is left
  pub record AddsLines (old new : Saver) : Type 0 where
    pub more : List (List ℕ)
    pub lines : unwritten_lines new ≡ unwritten_lines old ++ more
    pub each : ForEach IsJournalLine more
    pub left : (e : PlainEntryAt) → IsIn e (places_left old)
        → HasLineAt (unwritten_lines new) e ⊎ IsIn e (places_left new)
    pub reserved : reserved_number new ≡ reserved_number old
    pub block : HasBlockLine old → HasBlockLine new

  -- a committed round: the lines that were left from failed rounds, and more lines, stand after the others, and none is
  -- left. The places that were left, and those of the lists of all shards, have their lines. Numbers are reserved only
  -- with the line of their block
  pub record CommitsRound {W : Type 0} (has_lines : List (List ℕ) → W → Type 0) (old new : Saver) (before after : W) : Type 0 where
    pub more : List (List ℕ)
    pub each : ForEach IsJournalLine more
    pub written : (lines : List (List ℕ)) → has_lines lines before
        → has_lines (lines ++ (unwritten_lines old ++ more)) after
    pub left : (e : PlainEntryAt) → IsIn e (places_left old) → HasLineAt (unwritten_lines old ++ more) e
    pub taken : (shard : ℕ) → shard < 8 → TakesWithLines (unwritten_lines old ++ more) shard
    pub none_left : (unwritten_lines new ≡ []) × (places_left new ≡ [])
    pub block : HasBlockLine old → (reserved_number new ≡ reserved_number old)
        ⊎ IsIn (number_line (reserved_number new)) (unwritten_lines old ++ more)
