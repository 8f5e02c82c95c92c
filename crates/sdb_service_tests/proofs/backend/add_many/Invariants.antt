use Rattle.sdb_backend.specs.PassModel.{IsPassOfBackend}
use Rattle.sdb_service_tests.proofs.backend.add_many.Given as goal

abbrev pub invariant-loop-seq : goal.invariant-loop-seq
invariant-loop-seq g l = IsPassOfBackend l.pass l.fn.backend
