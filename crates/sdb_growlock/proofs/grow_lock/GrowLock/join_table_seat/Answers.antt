use Rattle.std.proofs.Common.{rules}
use Rattle.sdb_growlock.proofs.StepLemmas.{join_allowed}
use Rattle.sdb_growlock.proofs.grow_lock.GrowLock.join_table_seat.Goals as goal

pub join_seat-requires : goal.join_seat-requires
join_seat-requires g c = let r = g.T.Grows in (search rules, search rules, search rules, search rules, join_allowed r.extends r.same r.blank _ _ _ _ c.requires.idle.1)
