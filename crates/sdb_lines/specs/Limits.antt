-- The limits of a line and of a run.
use Rattle.std.specs.Prelude.{ℕ, ◌+◌}

-- the maximum length of a line, in bytes, without its line feed
abbrev pub max_line_len : ℕ
max_line_len = 1048576

-- the maximum number of bytes kept of a line, one more so that a longer line is recognized
abbrev pub max_partial_len : ℕ
max_partial_len = max_line_len + 1

-- the maximum number of reads in one run
abbrev pub read_limit : ℕ
read_limit = 1099511627776
