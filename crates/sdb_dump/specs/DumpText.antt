-- The text of a dump, and the result of its check.
use Rattle.std.specs.Prelude.{◌≡◌, ℕ, ◌+◌, List, [], ◌∷◌, ◌++◌, Bool, true, false, cond, if◌then◌else◌, length, map, nat_eq, ◌&&◌, bytes_eq, codes, Option, Some, None, Result, Ok, Err, ⊤, option_and_then}
use Rattle.std.specs.List.{slice_get}
use Rattle.std.specs.Option.{option_map_or}
use Rattle.std.specs.Ordering.{is_lt}
use Rattle.serde_json.specs.Data.{number, unsigned, object, no_members, member}
use Rattle.serde_json.specs.Written.{compact_text}
use Rattle.sdb_oplog.specs.Decide.{decide}
use Rattle.sdb_oplog.specs.Keys.{PlainKey, compare_keys, keys_equal}
use Rattle.sdb_oplog.specs.Plain.{PlainSubmission, PlainEntry}
use Rattle.sdb_dump.specs.DumpLine.{line_data, PlainLineContent, read_line}

-- an entry of the log of a key
pub record PlainLine : Type 0 where
  pub key : PlainKey
  pub entry : PlainEntry

-- ---- the text

abbrev pub header_line : List ℕ
header_line = compact_text (object (member (codes "dump") (number (unsigned 2)) no_members))

abbrev pub count_line : ℕ → List ℕ
count_line n = compact_text (object (member (codes "entries") (number (unsigned n)) no_members))

abbrev pub entry_line : PlainLine → List ℕ
entry_line x = compact_text (line_data x.key x.entry)

-- the lines of a dump, without their line feeds
abbrev pub dump_lines : List PlainLine → List (List ℕ)
dump_lines xs = header_line ∷ (map entry_line xs ++ count_line (length xs) ∷ [])

-- the lines, each with its line feed
abbrev pub ended_lines : List (List ℕ) → List ℕ
ended_lines [] = []
ended_lines (l ∷ ls) = l ++ 10 ∷ ended_lines ls

abbrev pub dump_text : List PlainLine → List ℕ
dump_text xs = ended_lines (dump_lines xs)

-- ---- lines that are a dump

abbrev pub log_of_lines : List PlainLine → PlainKey → List PlainEntry
log_of_lines [] k = []
log_of_lines (x ∷ xs) k = cond (keys_equal k x.key) (x.entry ∷ log_of_lines xs k) (log_of_lines xs k)

-- the key is not less than that of the last line
abbrev pub key_not_below : List PlainLine → PlainKey → Bool
key_not_below [] k = true
key_not_below (x ∷ []) k = if is_lt (compare_keys k x.key) then false else true
key_not_below (x ∷ y ∷ xs) k = key_not_below (y ∷ xs) k

abbrev pub line_content : PlainLine → PlainLineContent
line_content x = record { key = x.key; submission = x.entry.arrived; moment = x.entry.moment }

-- the entry is what `decide` stores for its submission, at its moment, on the entries before it, and its line parses to
-- these
pub record IsNextEntry (before : List PlainLine) (x : PlainLine) : Type 0 where
  pub decided : (decide (log_of_lines before x.key) x.entry.arrived x.entry.moment).log
      ≡ log_of_lines before x.key ++ x.entry ∷ []
  pub read : read_line (entry_line x) ≡ Some (line_content x)

-- the line's key isn't less than the last one, and its entry may be the next one
pub record IsNextLine (before : List PlainLine) (x : PlainLine) : Type 0 where
  pub ascends : key_not_below before x.key ≡ true
  pub is_next : IsNextEntry before x

abbrev pub AreNextLines : List PlainLine → List PlainLine → Type 0
AreNextLines before [] = ⊤
AreNextLines before (x ∷ xs) = IsNextLine before x × AreNextLines (before ++ x ∷ []) xs

-- ---- the checker

-- the entry that `decide` stores, if any
abbrev pub decided_entry : List PlainEntry → PlainSubmission → ℕ → Option PlainEntry
decided_entry log s now = slice_get (decide log s now).log (length log)

-- the entry of the key has this moment, and its line is this text
abbrev pub is_text_of_entry : List ℕ → PlainKey → ℕ → PlainEntry → Bool
is_text_of_entry line k m e = nat_eq e.moment m && bytes_eq (entry_line (record { key = k; entry = e })) line

-- this entry, if it has the parsed moment and its line is this text
abbrev pub line_of_entry_cond : List ℕ → PlainLineContent → PlainEntry → Option PlainLine
line_of_entry_cond line r e =
    if is_text_of_entry line r.key r.moment e
    then Some (record { key = r.key; entry = e })
    else None

-- the entry that the parsed submission stores on the log of its key, if its line is this text
abbrev pub entry_of_read : List PlainEntry → List ℕ → PlainLineContent → Option PlainLine
entry_of_read log line r = option_and_then (line_of_entry_cond line r) (decided_entry log r.submission r.moment)

-- the same, if the key isn't less than that of the last line
abbrev pub line_of_read : List PlainLine → List ℕ → PlainLineContent → Option PlainLine
line_of_read before line r =
    if key_not_below before r.key then entry_of_read (log_of_lines before r.key) line r else None

abbrev pub accepted_line : List PlainLine → List ℕ → Option PlainLine
accepted_line before line = option_and_then (line_of_read before line) (read_line line)

-- no line follows the count
abbrev pub check_end : List PlainLine → ℕ → List (List ℕ) → List ℕ → Result (List PlainLine) ℕ
check_end xs n [] [] = Ok xs
check_end xs n _ _ = Err n

-- the check from line n on: the lines with a line feed, and the bytes after the last one
abbrev pub check_from : List PlainLine → ℕ → List (List ℕ) → List ℕ → Result (List PlainLine) ℕ
check_from xs n [] rest = Err n
check_from xs n (l ∷ ls) rest =
    if bytes_eq l (count_line (length xs)) then check_end xs (n + 1) ls rest
    else option_map_or (λ x. check_from (xs ++ x ∷ []) (n + 1) ls rest) (accepted_line xs l) (Err n)

-- the entries, or the number of the first wrong line
abbrev pub check : List (List ℕ) → List ℕ → Result (List PlainLine) ℕ
check [] rest = Err 1
check (l ∷ ls) rest = if bytes_eq l header_line then check_from [] 2 ls rest else Err 1
