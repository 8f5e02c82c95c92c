use Rattle.sdb_backend.specs.PassModel.{IsPassOfBackend}
use Rattle.sdb_service_tests.proofs.backend.take_all.Given as goal

abbrev pub invariant-loop : goal.invariant-loop
invariant-loop g l = IsPassOfBackend l.pass l.fn.backend
