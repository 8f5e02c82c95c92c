use Rattle.std.proofs.Common.{rules, [], ◌∙◌, ap, subst, sym, arith}
use Rattle.atomic_table.specs.Table.{Splits}
use Rattle.sdb_growlock.specs.LockRule.{LockInvariant, splitter_view, split_off_view}
use Rattle.sdb_growlock.proofs.SeatViews.{M}
use Rattle.sdb_growlock.proofs.StepLemmas.{read_allowed, split_allowed}
use Rattle.sdb_growlock.proofs.grow_lock.GrowLock.split_table_seat.Goals as goal

pub load-requires : goal.load-requires
load-requires g c = let r = g.T.Grows in (search rules, search rules, read_allowed r.extends r.same r.blank r.extends_refl r.same_refl _ _ _)

pub split_seat-requires : goal.split_seat-requires
split_seat-requires g c = let r = g.T.Grows in let t = c.requires.first in let e = c.load.ensures.2.0 ∙ t.3 in (
  search rules,
  search rules,
  subst (λ (m : M g.row.T.Denot). Splits (LockInvariant r.extends r.same r.blank) c.load.new.seat.id m.0 (splitter_view m.0) (split_off_view m.0)) (sym e)
      (split_allowed r.extends r.same r.blank r.same_of_blank _ t.0 t.1 t.2 t.4),
)

pub returns-clause-parts : goal.returns-clause-parts
returns-clause-parts g c = let e = c.load.ensures.2.0 in (c.split_seat.ensures.2 ∙ ap (λ (m : M g.row.T.Denot). let z : M g.row.T.Denot = (splitter_view m.0, m.1) in z) e, c.split_seat.ensures.4 ∙ ap (λ (m : M g.row.T.Denot). let z : M g.row.T.Denot = (split_off_view m.0, []) in z) e)

pub returns-clause-blank : goal.returns-clause-blank
returns-clause-blank g c = let t = c.requires.first in c.load.ensures.2.1 (λ e. let k = t.4 in let h = ap (λ (m : M g.row.T.Denot). m.0.next) t.3 in omega arith)
