-- The host of a server on loops.
use Rattle.sdb_backend.specs.PassModel.{IsHostOfBackend}
use Rattle.sdb_backend.specs.declared.backend.Backend.{Backend}
use Rattle.sdb_backend.specs.declared.pass.Host.{Host}
use Rattle.sdb_connection.specs.declared.loop_server.LoopServer.{LoopServer}

module _ {R P : Type 0} where
  -- the backend of a server on loops
  abbrev pub loops_backend : LoopServer R P → Backend R
  loops_backend s = s.backend

  -- the host belongs to the server's backend
  abbrev pub IsHostOfLoops : Host → LoopServer R P → Type 0
  IsHostOfLoops h s = IsHostOfBackend h (loops_backend s)
