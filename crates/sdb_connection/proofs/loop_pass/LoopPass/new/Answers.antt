use Rattle.std.proofs.Common.{subst}
use Rattle.sdb_backend.specs.PassModel.{IsPassOfBackend}
use Rattle.sdb_connection.specs.LoopModel.{IsHostOfLoops}
use Rattle.sdb_connection.proofs.loop_pass.LoopPass.new.Goals as goal

pub invariant_of-result : goal.invariant_of-result
invariant_of-result g c =
    let belongs = subst (λ s. IsPassOfBackend c.in-Ok.pass s.backend) c.deref.ensures c.in-Ok.ensures.ok.belongs in
    record { belongs = c.args.context.now.names_backend.1 c.in-Ok.pass belongs }

pub returns-in-Ok : goal.returns-in-Ok
returns-in-Ok g c = record { host = subst (λ s. IsHostOfLoops c.enter.new.host s) c.deref.ensures c.enter.ensures.host }

pub returns-in-Err : goal.returns-in-Err
returns-in-Err g c = record { host = subst (λ s. IsHostOfLoops c.enter.new.host s) c.deref.ensures c.enter.ensures.host }
