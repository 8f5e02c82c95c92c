use Rattle.std.proofs.Common.{rules, [], ◌∙◌, ap, subst}
use Rattle.sdb_growlock.specs.LockRule.{ForEach, idle_view, note_view, join_views}
use Rattle.sdb_growlock.proofs.SeatViews.{M, idle_view_of_fields}
use Rattle.sdb_growlock.proofs.StepLemmas.{note_allowed, join_allowed, compare_allowed}
use Rattle.sdb_growlock.proofs.grow_lock.GrowLock.compare.Goals as goal

pub split_seat-note-requires : goal.split_seat-note-requires
split_seat-note-requires g c = let r = g.T.Grows in (search rules, search rules, note_allowed r.extends r.same r.blank _ _)

pub join_seat-requires : goal.join_seat-requires
join_seat-requires g c = let r = g.T.Grows in
    (search rules, search rules, search rules, search rules, join_allowed r.extends r.same r.blank _ _ _ _ (ap (λ (m : M g.row.T.Denot). m.0.out) c.split_seat-note.ensures.4))

pub load-requires : goal.load-requires
load-requires g c = let r = g.T.Grows in (search rules, search rules, compare_allowed r.extends r.same r.blank _ _ _)

pub returns-clause-extended : goal.returns-clause-extended
returns-clause-extended g c = let r = g.T.Grows in let a = c.args.first.now in let h = a.is_idle in let t = idle_view_of_fields a.inner.me a.number a.next h.0 h.1 h.2 h.3 h.4 in
    let b = c.args.second.now in let i = b.is_idle in let u = idle_view_of_fields b.inner.me b.number b.next i.0 i.1 i.2 i.3 i.4 in
    let seen = λ (m : M g.row.T.Denot). m.0.seen in let note = c.split_seat-note.result in let k = idle_view b.number u.0 b.next in
    let joined = c.join_seat.ensures.2
    ∙ ap (λ (m : M g.row.T.Denot). let z : M g.row.T.Denot = (join_views m.0 note.me.0, m.1) in z) u.1
    ∙ ap (λ (m : M g.row.T.Denot). let z : M g.row.T.Denot = (join_views k m.0, []) in z) c.split_seat-note.ensures.4
    ∙ ap (λ (m : M g.row.T.Denot). let z : M g.row.T.Denot = (join_views k (note_view m.0), []) in z) t.1 in
    let d = c.load.ensures.2 in (
      t.0,
      u.0,
      d.1.0,
      ap seen t.1,
      ap seen c.split_seat-note.ensures.2 ∙ ap seen t.1,
      ap seen u.1,
      ap seen d.0 ∙ ap seen joined,
      (subst (λ (m : M g.row.T.Denot). ForEach (r.extends d.1.0) m.0.notes) joined d.1.2).0,
      (subst (λ (m : M g.row.T.Denot). ForEach (λ p. r.extends d.1.0 p.value) m.0.seen) joined d.1.1).0,
    )
