-- The reads, writes and failures of a run.
use Rattle.std.specs.Prelude.{◌≡◌, ℕ, ◌+◌, ◌-◌, ◌^◌, ◌≤◌, ◌⊎◌, Bool, true, if◌then◌else◌, min, Result, IsErrOf}
use Rattle.sdb_lines.specs.Limits.{read_limit}
use Rattle.sdb_lines.specs.declared.runner.RunFault.{RunFault}
use Rattle.sdb_lines.specs.declared.runner.RunFault.TheVariants.{ReadFailed, WriteFailed}

-- the number of failures after a call that failed or not, which saturates at 2^64 - 1
abbrev pub failures_after : Bool → ℕ → ℕ
failures_after failed n = if failed then min (n + 1) (2 ^ 64 - 1) else n

-- a run makes a limited number of reads, and none fails except the one that is its error, or it has used them all
pub record ReadFaultIsCounted {A : Type 0} (result : Result A RunFault) (calls failures new_calls new_failures : ℕ) : Type 0 where
  pub few : new_calls ≤ calls + read_limit
  pub others : (new_failures ≡ failures) ⊎ IsErrOf result ReadFailed
  pub fault : IsErrOf result ReadFailed → (new_failures ≡ failures_after true failures)
      ⊎ (min (calls + read_limit) (2 ^ 64 - 1) ≤ new_calls)

-- none of its writes and flushes fails except the one that is its error
pub record WriteFaultIsCounted {A : Type 0} (result : Result A RunFault) (failures new_failures : ℕ) : Type 0 where
  pub others : (new_failures ≡ failures) ⊎ IsErrOf result WriteFailed
  pub fault : IsErrOf result WriteFailed → new_failures ≡ failures_after true failures
