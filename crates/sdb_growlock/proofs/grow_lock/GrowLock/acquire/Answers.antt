use Rattle.std.proofs.Common.{◌∙◌, subst, refl}
use Rattle.sdb_growlock.specs.LockRule.{AcquiresValue}
use Rattle.sdb_growlock.proofs.grow_lock.GrowLock.acquire.Goals as goal

pub returns-then-try_acquire-2-clause-taken : goal.returns-then-try_acquire-2-clause-taken
returns-then-try_acquire-2-clause-taken g c = let r = g.T.Grows in
    subst (λ m. AcquiresValue r.extends r.same r.blank m c.try_acquire-in-loop.new.table_seat.me) (c.loop.invariant.me ∙ c.if-try_acquire.ensures.unchanged_on_false refl) (c.if-try_acquire-2.ensures.taken refl)
