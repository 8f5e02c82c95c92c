use Rattle.std.proofs.Common.{◌≡◌, ◌∷◌, [], ◌∙◌, ap, subst}
use Rattle.sdb_growlock.specs.LockRule.{ForEach}
use Rattle.sdb_growlock.specs.declared.grow_lock.Seat.{Seat}
use Rattle.sdb_growlock.proofs.CloseLemmas.{for_each_left, for_each_right}
use Rattle.sdb_growlock.proofs.grow_lock.GrowLock.join_all_table_seats.Goals as goal

pub join_table_seat-requires-clause-belongs : goal.join_table_seat-requires-clause-belongs
join_table_seat-requires-clause-belongs g c = let P : Seat g.row.T.Denot → Type 0 = λ s. s.inner.table_id ≡ c.args.self.now.table.shared.table_id in let all = c.loop-seat.invariant.all in
    let left = for_each_left P c.loop-seat.seats.items all.0 (subst (ForEach P) all.1 c.requires.same_table) in
    let here = (for_each_right P c.pop.new.self.items (c.in-Some.seat ∷ []) (subst (ForEach P) c.in-Some.ensures.items left)).0 in
    (c.loop-seat.invariant.table ∙ c.requires.belongs, ap (λ p. p.table_id) c.into_table_seat.ensures ∙ here)
