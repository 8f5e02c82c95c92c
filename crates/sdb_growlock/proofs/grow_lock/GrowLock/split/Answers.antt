use Rattle.std.proofs.Common.{rules, [], ◌∙◌, ap, subst}
use Rattle.sdb_growlock.specs.LockRule.{ForEach, splitter_view, split_off_view}
use Rattle.sdb_growlock.proofs.SeatViews.{M, idle_view_of_fields, fields_of_idle_view}
use Rattle.sdb_growlock.proofs.grow_lock.GrowLock.split.Goals as goal

pub split_table_seat-inner-requires-clause-first : goal.split_table_seat-inner-requires-clause-first
split_table_seat-inner-requires-clause-first g c = let s = c.args.seat.now in let h = s.is_idle in let t = idle_view_of_fields s.inner.me s.number s.next h.0 h.1 h.2 h.3 h.4 in (s.number, s.next, t.0, t.1, c.requires.first)

pub invariant_of-result : goal.invariant_of-result
invariant_of-result g c = let s = c.args.seat.now in let h = s.is_idle in let t = idle_view_of_fields s.inner.me s.number s.next h.0 h.1 h.2 h.3 h.4 in
    record { is_idle = fields_of_idle_view _ s.next 0 t.0 (c.split_table_seat-inner.ensures.parts.1 ∙ ap (λ (m : M g.row.T.Denot). let z : M g.row.T.Denot = (split_off_view m.0, []) in z) t.1) }

pub returns-clause-ok : goal.returns-clause-ok
returns-clause-ok g c = let s = c.args.seat.now in let h = s.is_idle in let t = idle_view_of_fields s.inner.me s.number s.next h.0 h.1 h.2 h.3 h.4 in
    let seen = λ (m : M g.row.T.Denot). m.0.seen in let one = ap seen t.1 in
    let left = c.split_table_seat-inner.ensures.parts.0 ∙ ap (λ (m : M g.row.T.Denot). let z : M g.row.T.Denot = (splitter_view m.0, m.1) in z) t.1 in
    let off = c.split_table_seat-inner.ensures.parts.1 ∙ ap (λ (m : M g.row.T.Denot). let z : M g.row.T.Denot = (split_off_view m.0, []) in z) t.1 in
    record {
      belongs = search rules;
      has_number = search rules;
      has_no_next = search rules;
      first_number_unchanged = search rules;
      first_next_grows = search rules;
      seen = (t.0, one, ap seen left, ap seen off, (subst (λ (m : M g.row.T.Denot). ForEach (λ p. g.T.Grows.blank m.0.next p.value) m.0.seen) t.1 c.split_table_seat-inner.ensures.blank).0);
    }
