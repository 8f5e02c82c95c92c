-- The session over lines: its source, and which lines count as steps.
use Rattle.std.specs.Prelude.{ℕ, List, Bool, codes}
use Rattle.std.specs.Result.{is_ok}
use Rattle.sdb_wire.specs.Wire.{parse_message}

-- the source of the session over lines
abbrev pub own_source : List ℕ
own_source = codes "s1"

-- a line counts as a step if it parses to a request
abbrev pub is_request : List ℕ → Bool
is_request line = is_ok (parse_message line).request
