use Rattle.std.proofs.Common.{ℕ, ◌≤◌, ◌∙◌, ap, subst, Option, map}
use Rattle.atomic_table.specs.declared.shared.Seat as atomic
use Rattle.sdb_growlock.specs.declared.view.View.{View}
use Rattle.sdb_growlock.specs.declared.grow_lock.Seat.{Seat}
use Rattle.sdb_growlock.specs.LockRule.{ForEach, HasObserved, join_all_views, sum_of}
use Rattle.sdb_growlock.proofs.SeatViews.{M}
use Rattle.sdb_growlock.proofs.CloseLemmas.{close_returns_value, seat_view, value_unique}
use Rattle.sdb_growlock.proofs.grow_lock.GrowLock.close.Goals as goal

abbrev Place : Type 0 → Type 0
Place T = atomic.Seat (Option T) (View T)

pub unreachable-requires-in_default-slot : goal.unreachable-requires-in_default-slot
unreachable-requires-in_default-slot g c = let r = g.T.Grows in let p = c.in-Some.ensures in
    let all = c.join_all_table_seats.ensures.all ∙ ap (λ (q : Place g.row.T.Denot). let z : M g.row.T.Denot = (join_all_views q.me.0 (map seat_view c.pop.new.self.items), q.me.1) in z) c.into_table_seat-table_seat.ensures in
    let t = close_returns_value r.extends r.same r.blank c.args.seats.items c.pop.new.self.items c.in-Some.last c.join_all_table_seats.new.table_seat.me _ _ _ _ p.items c.requires.first c.requires.all all c.close_with-closed.ensures.values.2 c.take-slot.ensures.value in
    c.in_default-slot.not-Some t.0 t.1

pub returns-clause-seen : goal.returns-clause-seen
returns-clause-seen g c = let r = g.T.Grows in let p = c.in-Some.ensures in
    let all = c.join_all_table_seats.ensures.all ∙ ap (λ (q : Place g.row.T.Denot). let z : M g.row.T.Denot = (join_all_views q.me.0 (map seat_view c.pop.new.self.items), q.me.1) in z) c.into_table_seat-table_seat.ensures in
    let t = close_returns_value r.extends r.same r.blank c.args.seats.items c.pop.new.self.items c.in-Some.last c.join_all_table_seats.new.table_seat.me _ _ _ _ p.items c.requires.first c.requires.all all c.close_with-closed.ensures.values.2 c.take-slot.ensures.value in
    subst (λ (v : g.row.T.Denot). ForEach (λ (s : Seat g.row.T.Denot). (x : g.row.T.Denot) → HasObserved s.inner.me.0 s.number x → r.extends v x × r.same s.number x v) c.args.seats.items)
    (value_unique t.0 c.in-Some-slot.value c.take-slot.result t.1 c.in-Some-slot.is) t.2

pub returns-clause-blank : goal.returns-clause-blank
returns-clause-blank g c = let r = g.T.Grows in let p = c.in-Some.ensures in
    let all = c.join_all_table_seats.ensures.all ∙ ap (λ (q : Place g.row.T.Denot). let z : M g.row.T.Denot = (join_all_views q.me.0 (map seat_view c.pop.new.self.items), q.me.1) in z) c.into_table_seat-table_seat.ensures in
    let t = close_returns_value r.extends r.same r.blank c.args.seats.items c.pop.new.self.items c.in-Some.last c.join_all_table_seats.new.table_seat.me _ _ _ _ p.items c.requires.first c.requires.all all c.close_with-closed.ensures.values.2 c.take-slot.ensures.value in
    subst (λ (v : g.row.T.Denot). (k : ℕ) → sum_of (map (λ (s : Seat g.row.T.Denot). s.next) c.args.seats.items) ≤ k → r.blank k v)
    (value_unique t.0 c.in-Some-slot.value c.take-slot.result t.1 c.in-Some-slot.is) t.3
