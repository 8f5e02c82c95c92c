-- A journal that was written restores exactly its items, and another one is refused at its first wrong line.
use Rattle.std.specs.Prelude.{◌≡◌, ℕ, ◌+◌, List, [], ◌∷◌, ◌++◌, length, Some, None, Ok, Err, ⊤}
use Rattle.sdb_oplog.specs.Decide.{decide, IsMade}
use Rattle.sdb_oplog.specs.Keys.{PlainKey}
use Rattle.sdb_dump.specs.DumpLine.{read_line}
use Rattle.sdb_dump.specs.DumpText.{PlainLine, IsNextEntry}
use Rattle.sdb_dump.specs.EntryLimits.{KeyInLimits, EntryInLimits}
use Rattle.sdb_dump.specs.ValueLimits.{IsSafeInteger}
use Rattle.sdb_dump.specs.JournalText.{JournalItem, journal_entry, number_block, number_line, journal_lines, entries_of, logs_of_items, read_number, accepted_item, restore}

abbrev pub IsNextItem : List JournalItem → JournalItem → Type 0
IsNextItem before (journal_entry x) = IsNextEntry (entries_of before) x
IsNextItem before (number_block n) = (read_line (number_line n) ≡ None) × (read_number (number_line n) ≡ Some n)

abbrev pub AreNextItems : List JournalItem → List JournalItem → Type 0
AreNextItems before [] = ⊤
AreNextItems before (x ∷ xs) = IsNextItem before x × AreNextItems (before ++ x ∷ []) xs

-- the items of a journal
abbrev pub AreJournal : List JournalItem → Type 0
AreJournal = AreNextItems []

-- lines whose first wrong one has this number
pub record IsWrongAt (lines : List (List ℕ)) (n : ℕ) : Type 0 where
  pub before : List JournalItem
  pub line : List ℕ
  pub rest : List (List ℕ)
  pub lines_are : lines ≡ journal_lines before ++ line ∷ rest
  pub journal : AreJournal before
  pub number : n ≡ length before + 1
  pub wrong : accepted_item before line ≡ None

-- the lines of a journal restore its items, and no other lines do
pub record JournalIsExact : Type 0 where
  pub complete : (xs : List JournalItem) → AreJournal xs → restore (journal_lines xs) ≡ Ok xs
  pub sound : (lines : List (List ℕ)) (xs : List JournalItem) → restore lines ≡ Ok xs → (lines ≡ journal_lines xs) × AreJournal xs
  pub wrong : (lines : List (List ℕ)) (n : ℕ) → restore lines ≡ Err n → IsWrongAt lines n
  pub refused : (lines : List (List ℕ)) (n : ℕ) → IsWrongAt lines n → restore lines ≡ Err n

-- the logs of a journal are made
abbrev pub JournalLogsAreMade : Type 0
JournalLogsAreMade = (xs : List JournalItem) → AreJournal xs → (k : PlainKey) → IsMade (logs_of_items xs k)

-- an entry that `decide` stores, within the limits, may be next, and so may each block of numbers of 53 bits
pub record ItemsAreNext : Type 0 where
  pub entries : (before : List JournalItem) (x : PlainLine)
      → (decide (logs_of_items before x.key) x.entry.arrived x.entry.moment).log ≡ logs_of_items before x.key ++ x.entry ∷ []
      → KeyInLimits x.key → EntryInLimits x.entry → IsNextItem before (journal_entry x)
  pub numbers : (before : List JournalItem) (n : ℕ) → IsSafeInteger n → IsNextItem before (number_block n)
