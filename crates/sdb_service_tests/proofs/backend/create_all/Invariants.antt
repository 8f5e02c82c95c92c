use Rattle.sdb_backend.specs.PassModel.{IsPassOfBackend}
use Rattle.sdb_service_tests.proofs.backend.create_all.Given as goal

abbrev pub invariant-loop-id : goal.invariant-loop-id
invariant-loop-id g l = IsPassOfBackend l.pass l.fn.backend
