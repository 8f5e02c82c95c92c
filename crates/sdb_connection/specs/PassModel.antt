-- The backend and pass number that a session preserves.
use Rattle.std.specs.Prelude.{◌≡◌}
use Rattle.sdb_backend.specs.PassModel.{pass_number, IsPassOfBackend}
use Rattle.sdb_backend.specs.declared.backend.Backend.{Backend}
use Rattle.sdb_backend.specs.declared.pass.Pass.{Pass}

module _ {R : Type 0} where
  -- the backend is unchanged, and the new pass belongs to it and has the old pass's number
  abbrev pub KeepsPass : Backend R → Pass → Backend R → Pass → Type 0
  KeepsPass b p c q = (c ≡ b) × IsPassOfBackend q c × (pass_number q ≡ pass_number p)
