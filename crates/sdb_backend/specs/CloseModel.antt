-- A refused close of a backend.
use Rattle.std.specs.Prelude.{◌≡◌, List}
use Rattle.std.specs.List.Sorted.{IsPermutation}
use Rattle.sdb_growlock.specs.LockRule.{ForEach}
use Rattle.sdb_backend.specs.PassModel.{next_pass_number, IsPassOfBackend, HasEveryPass}
use Rattle.sdb_backend.specs.declared.backend.Backend.{Backend}
use Rattle.sdb_backend.specs.declared.backend.CloseRefused.{CloseRefused}
use Rattle.sdb_backend.specs.declared.backend.CloseError.TheVariants.{OutOfMemory, MissingPass}
use Rattle.sdb_backend.specs.declared.pass.Pass.{Pass}
use Rattle.sdb_backend.specs.declared.pass.Host.{Host}

-- a refused close returns its arguments, the passes in another order; its reason is a missing pass, or the memory
pub record IsCloseRefusal {R : Type 0} (b : Backend R) (host : Host) (passes : List Pass) (r : CloseRefused R) : Type 0 where
  pub backend_unchanged : r.backend ≡ b
  pub host_unchanged : r.host ≡ host
  pub passes_permuted : IsPermutation passes r.passes.items
  pub passes_belong : ForEach (λ p. IsPassOfBackend p r.backend) r.passes.items
  pub missing : r.error ≡ MissingPass → HasEveryPass (next_pass_number host) passes → ⊥
  pub memory : r.error ≡ OutOfMemory → HasEveryPass (next_pass_number host) passes
