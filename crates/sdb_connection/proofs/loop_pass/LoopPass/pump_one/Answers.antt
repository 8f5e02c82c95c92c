use Rattle.std.proofs.Common.{refl, sym, subst}
use Rattle.sdb_backend.specs.PassModel.{IsPassOfBackend}
use Rattle.sdb_connection.proofs.loop_pass.LoopPass.pump_one.Goals as goal

pub pump_one_to-requires : goal.pump_one_to-requires
pump_one_to-requires g c =
    let belongs = c.args.context.now.names_backend.0 c.args.self.now.pass c.args.self.now.belongs in
    record { accepted = subst (λ s. IsPassOfBackend c.args.self.now.pass s.backend) (sym c.deref.ensures) belongs }

pub invariant_of-self : goal.invariant_of-self
invariant_of-self g c =
    let belongs = subst (λ s. IsPassOfBackend c.pump_one_to.new.pass s.backend) c.deref.ensures c.pump_one_to.ensures.pass.accepted in
    record { belongs = c.args.context.now.names_backend.1 c.pump_one_to.new.pass belongs }

pub returns : goal.returns
returns g c =
    let belongs = subst (λ s. IsPassOfBackend c.pump_one_to.new.pass s.backend) c.deref.ensures c.pump_one_to.ensures.pass.accepted in
    (refl, belongs, c.pump_one_to.ensures.pass.number_unchanged)
