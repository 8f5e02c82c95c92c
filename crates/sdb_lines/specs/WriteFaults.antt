-- The writes that count as failures.
use Rattle.std.specs.Prelude.{ℕ, Bool, true, ◌&&◌, ◌==◌, nat_lt, Ok, Err}
use Rattle.std.specs.declared.result.Result.{Result}

-- the write failed, or wrote 0 of one or more bytes
abbrev pub is_write_fault : {E : Type 0} → Result ℕ E → ℕ → Bool
is_write_fault (Ok n) len = (n == 0) && nat_lt 0 len
is_write_fault (Err e) len = true
