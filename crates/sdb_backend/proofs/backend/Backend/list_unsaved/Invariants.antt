use Rattle.std.specs.Prelude.{◌≡◌}
use Rattle.sdb_backend.specs.PassModel.{pass_number, IsPassOfBackend}
use Rattle.sdb_backend.proofs.backend.Backend.list_unsaved.Given as goal

abbrev pub invariant-loop-shard : goal.invariant-loop-shard
invariant-loop-shard g l = IsPassOfBackend l.pass l.self × (pass_number l.pass ≡ pass_number l.initial.pass)
