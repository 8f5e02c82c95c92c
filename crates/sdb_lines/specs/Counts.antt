-- The number of lines, and of lines that are steps.
use Rattle.std.specs.Prelude.{◌≡◌, ℕ, ◌+◌, Bool, false, List, [], ◌∷◌, length, map, if◌then◌else◌, Some, None}
use Rattle.std.specs.declared.option.Option.{Option}
use Rattle.sdb_lines.specs.Lines.{lines_of, readable_text}
use Rattle.sdb_lines.specs.declared.runner.Counts.{Counts}

-- whether a line counts as a step, which an unreadable line does not
abbrev pub is_counted_step : (List ℕ → Bool) → Option (List ℕ) → Bool
is_counted_step is_step None = false
is_counted_step is_step (Some line) = is_step line

-- the number of lines that are steps
abbrev pub step_count : (List ℕ → Bool) → List (Option (List ℕ)) → ℕ
step_count is_step [] = 0
step_count is_step (line ∷ lines) = (if is_counted_step is_step line then 1 else 0) + step_count is_step lines

-- the counts after these lines are counted too
abbrev pub counts_after : (List ℕ → Bool) → Counts → List (Option (List ℕ)) → Counts
counts_after is_step counts lines =
    record { lines = counts.lines + length lines; steps = counts.steps + step_count is_step lines }

-- the counts are the number of lines of the input and the number of steps among them
pub record AreCountsOf (is_step : List ℕ → Bool) (input : List ℕ) (counts : Counts) : Type 0 where
  pub lines : counts.lines ≡ length (lines_of input)
  pub steps : counts.steps ≡ step_count is_step (map readable_text (lines_of input))
