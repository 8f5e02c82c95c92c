-- The reason why a dump isn't accepted.
use Rattle.std.specs.Prelude.{◌≡◌, ℕ, ◌+◌, ◌-◌, ◌^◌, ◌≤◌, ◌⊎◌, List, true, min, Result, Err, IsErrOf, ⊤}
use Rattle.sdb_lines.specs.Limits.{read_limit}
use Rattle.sdb_lines.specs.Streams.{failures_after}
use Rattle.sdb_dump.specs.DumpText.{PlainLine}
use Rattle.sdb_dump.specs.CheckStages.{PlainStage}
use Rattle.sdb_dump.specs.declared.checker.DumpFault.{DumpFault}
use Rattle.sdb_dump.specs.declared.checker.DumpFault.TheVariants.{ReadFailed, OutOfMemory, WrongLine}

-- the line is the first wrong one, or an allocation or a read failed
abbrev pub IsDumpFault : DumpFault → Result (List PlainLine) ℕ → Type 0
IsDumpFault ReadFailed r = ⊤
IsDumpFault OutOfMemory r = ⊤
IsDumpFault (WrongLine n) r = r ≡ Err n

-- the fault of a stage
abbrev pub IsStageFault : DumpFault → PlainStage → Type 0
IsStageFault ReadFailed s = ⊥
IsStageFault OutOfMemory s = ⊤
IsStageFault (WrongLine n) s = s ≡ PlainStage.wrong n

-- a check makes at most `read_limit` reads; none fails except the one that is its fault
pub record DumpReadFaultIsCounted {A : Type 0} (result : Result A DumpFault) (calls failures new_calls new_failures : ℕ) : Type 0 where
  pub few : new_calls ≤ calls + read_limit
  pub others : (new_failures ≡ failures) ⊎ IsErrOf result ReadFailed
  pub fault : IsErrOf result ReadFailed → (new_failures ≡ failures_after true failures)
      ⊎ (min (calls + read_limit) (2 ^ 64 - 1) ≤ new_calls)
