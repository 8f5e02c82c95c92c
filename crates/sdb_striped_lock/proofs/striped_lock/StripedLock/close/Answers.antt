use Rattle.std.proofs.Common.{List, slice_index_or, sym, subst, arith}
use Rattle.sdb_growlock.specs.LockRule.{ForEach}
use Rattle.sdb_growlock.specs.SeatModel.{BelongsTo}
use Rattle.sdb_growlock.specs.declared.grow_lock.Seat.{Seat}
use Rattle.sdb_striped_lock.specs.CloseModel.{HasEverySeat, IsValueAfterClose}
use Rattle.sdb_striped_lock.specs.laws.SeatLaws.{element_at}
use Rattle.sdb_striped_lock.proofs.CloseLemmas.{belongs_all, every_seat_present, for_each_at_index, close_relation}
use Rattle.sdb_striped_lock.proofs.striped_lock.StripedLock.close.Goals as goal

pub close_stripes-requires-clause-belongs : goal.close_stripes-requires-clause-belongs
close_stripes-requires-clause-belongs g c =
    λ i x y from lt.
    let cs = c.args.callers.items in
    let s = element_at c.args.first.seats.items 8 c.args.first.has_every_stripe (omega arith) in
    let l = slice_index_or c.args.self.locks.items i x in
    subst (λ (ss : List (Seat g.row.T.Denot)). ForEach (λ t. BelongsTo t l) ss) (sym (c.gather_stripes.ensures.columns i y s lt))
    ((c.requires.first.1 i s x from lt).0, belongs_all i s l cs (for_each_at_index c.args.self cs i s x lt c.requires.callers))

pub close_stripes-requires-clause-all : goal.close_stripes-requires-clause-all
close_stripes-requires-clause-all g c =
    λ i y lt.
    let cs = c.args.callers.items in
    let first = c.args.first.seats.items in
    let s = element_at first 8 c.args.first.has_every_stripe (omega arith) in
    let x = element_at c.args.self.locks.items 8 c.args.self.has_every_stripe (omega arith) in
    let l = slice_index_or c.args.self.locks.items i x in
    subst (λ (ss : List (Seat g.row.T.Denot)). HasEverySeat ss) (sym (c.gather_stripes.ensures.columns i y s lt))
    (every_seat_present i s l c.args.first.next (slice_index_or first i s) cs c.requires.first.0 (c.requires.first.1 i s x (omega arith) lt) (for_each_at_index c.args.self cs i s x lt c.requires.callers) c.requires.all)

pub returns : goal.returns
returns g c =
    let r = g.T.Grows in
    let cs = c.args.callers.items in
    let first = c.args.first.seats.items in
    let s = element_at first 8 c.args.first.has_every_stripe (omega arith) in
    let x = element_at c.args.self.locks.items 8 c.args.self.has_every_stripe (omega arith) in
    let y = element_at c.gather_stripes.new.columns.items 8 c.gather_stripes.ensures.length (omega arith) in
    record {
      length = c.close_stripes.ensures.length;
      each = λ i v lt.
          let l = slice_index_or c.args.self.locks.items i x in
          let value = slice_index_or c.close_stripes.result.items i v in
          close_relation r.extends r.same r.blank l i s c.args.first cs value (c.requires.first.1 i s x (omega arith) lt) (for_each_at_index c.args.self cs i s x lt c.requires.callers)
          (subst (λ (ss : List (Seat g.row.T.Denot)). IsValueAfterClose r.extends r.same r.blank ss value) (c.gather_stripes.ensures.columns i y s lt) (c.close_stripes.ensures.values i y v (omega arith) lt));
    }
