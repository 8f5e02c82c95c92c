use Rattle.std.proofs.Common.{sym, subst, List}
use Rattle.sdb_growlock.specs.LockRule.{ForEach}
use Rattle.sdb_backend.specs.PassModel.{IsHostOfBackend, IsPassOfBackend}
use Rattle.sdb_backend.specs.declared.pass.Host.{Host}
use Rattle.sdb_backend.specs.declared.pass.Pass.{Pass}
use Rattle.sdb_service_tests.proofs.Passes.{each_pushed}
use Rattle.sdb_service_tests.proofs.backend.close_after_refusal.Goals as goal

pub close-requires-2-clause-host : goal.close-requires-2-clause-host
close-requires-2-clause-host g c =
    let e = c.in-Err.ensures.err in
    subst (λ (h : Host). IsHostOfBackend h c.in-Err.refused.backend) (sym e.host_unchanged) (subst (λ b. IsHostOfBackend c.args.host b) (sym e.backend_unchanged) c.requires.host)

pub close-requires-2-clause-passes : goal.close-requires-2-clause-passes
close-requires-2-clause-passes g c =
    let e = c.in-Err.ensures.err in
    let b = c.in-Err.refused.backend in
    subst (λ (ps : List Pass). ForEach (λ p. IsPassOfBackend p b) ps) (sym c.in-Ok.ensures.items)
    (each_pushed (λ p. IsPassOfBackend p b) c.in-Err.refused.passes.items c.args.first e.passes_belong (subst (λ x. IsPassOfBackend c.args.first x) (sym e.backend_unchanged) c.requires.first))
