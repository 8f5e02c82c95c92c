use Rattle.std.proofs.Common.{rules}
use Rattle.sdb_growlock.proofs.StepLemmas.{release_allowed}
use Rattle.sdb_growlock.proofs.grow_lock.GrowLock.release.Goals as goal

pub store-requires : goal.store-requires
store-requires g c = let r = g.T.Grows in let t = c.requires.extended in
    (search rules, search rules, release_allowed r.extends r.same r.blank r.extends_refl r.same_refl r.extends_trans r.same_trans r.blank_of_same _ _ _ t.0 t.1 t.2 t.3 (search rules) t.4 t.5 t.6)
