use Rattle.std.proofs.Common.{subst, sym}
use Rattle.sdb_backend.specs.PassModel.{IsPassOfBackend}
use Rattle.sdb_growlock.specs.LockRule.{ForEach}
use Rattle.sdb_connection.specs.LoopModel.{IsHostOfLoops}
use Rattle.sdb_event_loop.proofs.listen.listen_as.Goals as goal

pub supply_passes-requires : goal.supply_passes-requires
supply_passes-requires g c = subst (λ s. IsHostOfLoops c.args.host.now s) (sym c.in_ok-context.ensures) c.requires.host

pub returns-clause-host : goal.returns-clause-host
returns-clause-host g c = subst (λ s. IsHostOfLoops c.supply_passes.new.host s) c.in_ok-context.ensures c.supply_passes.ensures

pub returns-clause-passes : goal.returns-clause-passes
returns-clause-passes g c = subst (λ s. ForEach (λ p. IsPassOfBackend p s.backend) c.join_loops.result.items) c.in_ok-context.ensures c.join_loops.ensures
