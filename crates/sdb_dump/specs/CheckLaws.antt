-- Laws of the lines of a dump.
use Rattle.std.specs.Prelude.{◌≡◌, ℕ, List, [], Some, Ok}
use Rattle.sdb_dump.specs.DumpText.{PlainLine, entry_line, line_content, dump_lines, AreNextLines, check}
use Rattle.sdb_dump.specs.DumpLine.{read_line}
use Rattle.sdb_dump.specs.EntryLimits.{KeyInLimits, EntryInLimits}

-- the line of an entry parses to the content that it was made of
abbrev pub LineReadsBack : Type 0
LineReadsBack =
    (x : PlainLine) → KeyInLimits x.key → EntryInLimits x.entry → read_line (entry_line x) ≡ Some (line_content x)

-- these lines are a dump of these entries, each of which may follow those before it
abbrev pub AreLinesOf : List PlainLine → List (List ℕ) → List ℕ → Type 0
AreLinesOf xs ls rest = (ls ≡ dump_lines xs) × (rest ≡ []) × AreNextLines [] xs

-- the check accepts exactly the dumps of its entries
pub record CheckIsExact : Type 0 where
  pub sound : (ls : List (List ℕ)) (rest : List ℕ) (xs : List PlainLine) → check ls rest ≡ Ok xs → AreLinesOf xs ls rest
  pub complete : (xs : List PlainLine) → AreNextLines [] xs → check (dump_lines xs) [] ≡ Ok xs
