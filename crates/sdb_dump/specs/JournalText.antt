-- The lines of a journal, and the result of restoring it.
use Rattle.std.specs.Prelude.{ℕ, ◌+◌, List, [], ◌∷◌, ◌++◌, map, fold, max, if◌then◌else◌, bytes_eq, codes, Option, Some, None, Result, Ok, Err, option_map, option_and_then}
use Rattle.std.specs.Option.{option_map_or}
use Rattle.serde_json.specs.Data.{Data, number, unsigned, object, no_members, member}
use Rattle.serde_json.specs.Written.{compact_text}
use Rattle.sdb_oplog.specs.Keys.{Logs}
use Rattle.sdb_wire.specs.Wire.{count_member}
use Rattle.sdb_dump.specs.DumpLine.{value_of_line, read_line}
use Rattle.sdb_dump.specs.DumpText.{PlainLine, entry_line, log_of_lines, entry_of_read}

pub data JournalItem : Type 0 where
  -- an entry of the log of a key
  journal_entry : PlainLine → JournalItem
  -- numbers up to this one may be given to sessions
  number_block : ℕ → JournalItem

-- ---- the text

abbrev pub number_line : ℕ → List ℕ
number_line n = compact_text (object (member (codes "given") (number (unsigned n)) no_members))

-- the line of an item: that of an entry is its line in a dump
abbrev pub item_line : JournalItem → List ℕ
item_line (journal_entry x) = entry_line x
item_line (number_block n) = number_line n

abbrev pub journal_lines : List JournalItem → List (List ℕ)
journal_lines = map item_line

-- ---- the logs and the highest number

abbrev pub entries_of : List JournalItem → List PlainLine
entries_of [] = []
entries_of (journal_entry x ∷ xs) = x ∷ entries_of xs
entries_of (number_block n ∷ xs) = entries_of xs

-- the log of each key: its entries in the order of storing
abbrev pub logs_of_items : List JournalItem → Logs
logs_of_items xs = log_of_lines (entries_of xs)

-- the number that an item names: the last one of a block, or that of the pass which submitted an entry
abbrev pub item_number : JournalItem → ℕ
item_number (journal_entry x) = x.entry.arrived.by
item_number (number_block n) = n

-- the highest number that an item names, or 0
abbrev pub highest_number : List JournalItem → ℕ
highest_number = fold (λ n x. max n (item_number x)) 0

-- ---- restoring

abbrev pub number_if_line : List ℕ → ℕ → Option ℕ
number_if_line line n = if bytes_eq (number_line n) line then Some n else None

-- the number of a data's member `given`, if its line is this text
abbrev pub number_of_data : List ℕ → Data → Option ℕ
number_of_data line d = option_and_then (number_if_line line) (count_member (codes "given") d)

-- the number of a line of a block
abbrev pub read_number : List ℕ → Option ℕ
read_number line = value_of_line (number_of_data line) line

-- the item of the next line, if it is one
abbrev pub accepted_item : List JournalItem → List ℕ → Option JournalItem
accepted_item before line =
    option_map_or (λ r. option_map journal_entry (entry_of_read (logs_of_items before r.key) line r)) (read_line line)
    (option_map number_block (read_number line))

-- the items of all lines, from line n on, or the number of the first wrong line
abbrev pub restore_from : ℕ → List JournalItem → List (List ℕ) → Result (List JournalItem) ℕ
restore_from n before [] = Ok before
restore_from n before (line ∷ lines) =
    option_map_or (λ x. restore_from (n + 1) (before ++ x ∷ []) lines) (accepted_item before line) (Err n)

-- the items of all lines, or the number of the first wrong line, from 1 on
abbrev pub restore : List (List ℕ) → Result (List JournalItem) ℕ
restore = restore_from 1 []
