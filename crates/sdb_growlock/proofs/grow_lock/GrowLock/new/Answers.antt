use Rattle.sdb_growlock.proofs.StepLemmas.{initial_invariant}
use Rattle.sdb_growlock.proofs.grow_lock.GrowLock.new.Goals as goal

pub new-requires : goal.new-requires
new-requires g c = let r = g.T.Grows in rw (c.push_reserved.ensures.items, c.in-Ok.ensures.items, c.of.ensures) (initial_invariant r.extends r.same r.blank c.args.value c.args.next c.requires.first r.extends_refl r.same_refl c.requires.blank)
