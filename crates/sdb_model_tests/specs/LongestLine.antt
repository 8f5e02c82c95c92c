-- The answers of the handler in the tests of `sdb_lines`: the length of the longest line so far as a digit, at most 9.
use Rattle.std.specs.Prelude.{◌≡◌, ◌+◌, ℕ, Bool, List, [], ◌∷◌, max, min, length, nat_lt, Some, None, codes}
use Rattle.std.specs.declared.option.Option.{Option}

-- the digit so far, a line, its answer, and the digit then
abbrev pub TakesLine : ℕ → Option (List ℕ) → List ℕ → ℕ → Type 0
TakesLine digit None answer then = (answer ≡ codes "bad\n") × (then ≡ digit)
TakesLine digit (Some line) answer then = (answer ≡ then ∷ 10 ∷ []) × (then ≡ max digit (48 + min (length line) 9))

-- a line of one or more bytes is a step
abbrev pub has_bytes : List ℕ → Bool
has_bytes line = nat_lt 0 (length line)
