use Rattle.sdb_backend.specs.PassModel.{IsHostOfBackend}
use Rattle.sdb_service_tests.proofs.backend.enter_many.Given as goal

abbrev pub invariant-loop-number : goal.invariant-loop-number
invariant-loop-number g l = IsHostOfBackend l.host l.fn.backend
