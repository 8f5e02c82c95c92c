-- A chunk of an input, split at its line feeds.
use Rattle.std.specs.Prelude.{ℕ, List, [], ◌∷◌, ◌++◌, take, ◌==◌, if◌then◌else◌}
use Rattle.std.specs.declared.option.Option.{Option}
use Rattle.sdb_lines.specs.Limits.{max_partial_len}
use Rattle.sdb_lines.specs.Lines.{readable_text}

-- the readable texts of the lines that end in a chunk, the first of which begins with the pending bytes
abbrev pub lines_ended_by : List ℕ → List ℕ → List (Option (List ℕ))
lines_ended_by [] line_buffer = []
lines_ended_by (x ∷ xs) line_buffer = if x == 10 then readable_text line_buffer ∷ lines_ended_by xs [] else lines_ended_by xs (line_buffer ++ x ∷ [])

-- the pending bytes after the chunk
abbrev pub partial_line_after : List ℕ → List ℕ → List ℕ
partial_line_after [] line_buffer = line_buffer
partial_line_after (x ∷ xs) line_buffer = if x == 10 then partial_line_after xs [] else partial_line_after xs (line_buffer ++ x ∷ [])

-- the kept prefix of a line
abbrev pub kept_prefix : List ℕ → List ℕ
kept_prefix line_buffer = take max_partial_len line_buffer
