-- A checker that gets lines one by one.
use Rattle.std.specs.Prelude.{◌≡◌, ℕ, ◌+◌, List, [], ◌∷◌, ◌++◌, length, if◌then◌else◌, bytes_eq, Option, Some, None, Result, Ok, Err}
use Rattle.sdb_dump.specs.DumpText.{PlainLine, header_line, count_line, accepted_line, check}

-- the stage of a checker: before the header, before the count, after the count, or the number of the first wrong line
pub data PlainStage : Type 0 where
  head : PlainStage
  body : List PlainLine → PlainStage
  done : List PlainLine → PlainStage
  wrong : ℕ → PlainStage

abbrev pub stage_after_entry : List PlainLine → Option PlainLine → PlainStage
stage_after_entry xs None = wrong (length xs + 2)
stage_after_entry xs (Some x) = body (xs ++ x ∷ [])

-- the stage after one more line
abbrev pub stage_after_line : PlainStage → List ℕ → PlainStage
stage_after_line head l = if bytes_eq l header_line then body [] else wrong 1
stage_after_line (body xs) l =
    if bytes_eq l (count_line (length xs)) then done xs else stage_after_entry xs (accepted_line xs l)
stage_after_line (done xs) l = wrong (length xs + 3)
stage_after_line (wrong n) l = wrong n

-- the result at the end, given the bytes after the last line feed
abbrev pub stage_result : PlainStage → List ℕ → Result (List PlainLine) ℕ
stage_result head rest = Err 1
stage_result (body xs) rest = Err (length xs + 2)
stage_result (done xs) [] = Ok xs
stage_result (done xs) (x ∷ rest) = Err (length xs + 3)
stage_result (wrong n) rest = Err n

abbrev pub stages_result : PlainStage → List (List ℕ) → List ℕ → Result (List PlainLine) ℕ
stages_result s [] rest = stage_result s rest
stages_result s (l ∷ ls) rest = stages_result (stage_after_line s l) ls rest

abbrev pub StagesAreCheck : Type 0
StagesAreCheck = (ls : List (List ℕ)) (rest : List ℕ) → stages_result head ls rest ≡ check ls rest
