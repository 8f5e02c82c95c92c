-- A text split at its line feeds.
use Rattle.std.specs.Prelude.{◌≡◌, ℕ, List, [], ◌∷◌, ◌++◌, ◌==◌, if◌then◌else◌, Result, Ok}
use Rattle.sdb_dump.specs.DumpText.{PlainLine, dump_text, check}
use Rattle.sdb_dump.specs.DumpLaws.{AllInLimits, IsDumpOfLogs}

pub record SplitText : Type 0 where
  pub ended : List (List ℕ)
  pub rest : List ℕ

abbrev pub cons_line : List ℕ → SplitText → SplitText
cons_line l c = record { ended = l ∷ c.ended; rest = c.rest }

-- the lines with a line feed, and the bytes after the last one
abbrev pub split_lines : List ℕ → List ℕ → SplitText
split_lines line_buffer [] = record { ended = []; rest = line_buffer }
split_lines line_buffer (x ∷ xs) = if x == 10 then cons_line line_buffer (split_lines [] xs) else split_lines (line_buffer ++ x ∷ []) xs

abbrev pub check_text : List ℕ → Result (List PlainLine) ℕ
check_text t = check (split_lines [] t).ended (split_lines [] t).rest

pub record TextIsExact : Type 0 where
  pub accepted : (xs : List PlainLine) → IsDumpOfLogs xs → AllInLimits xs → check_text (dump_text xs) ≡ Ok xs
  pub only : (t : List ℕ) (xs : List PlainLine) → check_text t ≡ Ok xs → (t ≡ dump_text xs) × IsDumpOfLogs xs
