use Rattle.std.proofs.Common.{rules}
use Rattle.sdb_growlock.proofs.StepLemmas.{acquire_allowed}
use Rattle.sdb_growlock.proofs.grow_lock.GrowLock.try_acquire.Goals as goal

pub swap-requires : goal.swap-requires
swap-requires g c = let r = g.T.Grows in let one = c.requires.one in
    (search rules, search rules, acquire_allowed r.extends r.same r.blank r.extends_refl r.same_refl _ _ _ one.0 one.1 one.2)
