use Rattle.std.proofs.Common.{◌≡◌, ◌≢◌, ℕ, ◌+◌, ◌<◌, ◌∷◌, [], List, length, length-append, slice_index_or, slice_set, sym, ap, ◌∙◌, subst, arith}
use Rattle.std.proofs.lemmas.List.{get_or_default, get_or-set_same, get_or-set_other}
use Rattle.std.proofs.Math.ListN.{length-set}
use Rattle.sdb_growlock.specs.declared.grow_lock.Seat.{Seat}
use Rattle.sdb_growlock.specs.declared.grow_lock.GrowLock.{GrowLock}
use Rattle.sdb_growlock.specs.SeatModel.{SeeSameBlankValue}
use Rattle.sdb_striped_lock.specs.AtIndex.{AtEachIndex}
use Rattle.sdb_striped_lock.specs.SeatSetModel.{IsSeatNumbered, IsRootSeat}
use Rattle.sdb_striped_lock.proofs.IndexLemmas.{each_item_of_set, each_item_of_push, get_or_is}
use Rattle.sdb_striped_lock.proofs.striped_lock.StripedLock.split_stripes.Goals as goal

pub loop-index-preserved : goal.loop-index-preserved
loop-index-preserved g c =
    let inv = c.loop-index.invariant in
    let blank = g.T.Grows.blank in
    let n = c.args.number in
    let m = c.loop-index.index in
    let lt : m < 8 = c.loop-index-test.true in
    let olds = c.args.firsts.now.items in
    let firsts = c.loop-index.firsts.items in
    let seats = c.loop-index.seats.items in
    let locks = c.args.self.now.locks.items in
    let o = c.index_mut.result.now in
    let l = c.index.result.now in
    let t = c.split.new.seat in
    let seat = c.in-Ok.seat in
    let e = inv.eight in
    let e0 = c.requires.length in
    let e1 = c.args.self.now.has_every_stripe in
    let within : m < length firsts = omega (arith, lt, e) in
    let o_is : slice_index_or olds m o ≡ o = sym (inv.left m o (omega arith) lt) ∙ sym c.index_mut.ensures.value in
    let old_there : (s : Seat g.row.T.Denot) → slice_index_or olds m s ≡ o = λ s. get_or_is olds m o s (omega (arith, lt, e0)) (sym o_is) in
    let lock_there : (d : GrowLock g.row.T.Denot) → slice_index_or locks m d ≡ l = λ d. get_or_is locks m l d (omega (arith, lt, e1)) c.index.ensures in
    let first : IsRootSeat n o l =
    subst (λ (x : GrowLock g.row.T.Denot). IsRootSeat n o x) (lock_there l) (subst (λ (x : Seat g.row.T.Denot). IsRootSeat n x (slice_index_or locks m l)) o_is (c.requires.first m o l (omega arith) lt)) in
    let P : ℕ → Seat g.row.T.Denot → Type 0 = λ i s. (d : GrowLock g.row.T.Denot) → IsRootSeat (n + 1) s (slice_index_or locks i d) in
    let Q : ℕ → Seat g.row.T.Denot → Type 0 = λ i s. (d : GrowLock g.row.T.Denot) → IsSeatNumbered n s (slice_index_or locks i d) in
    let F : ℕ → Seat g.row.T.Denot → Type 0 = λ i z. (s : Seat g.row.T.Denot) → SeeSameBlankValue blank (slice_index_or olds i s) (slice_index_or (slice_set firsts m t) i s) z in
    let own = c.split.ensures.belongs in
    let made = c.in-Ok.ensures.ok in
    let fresh : SeeSameBlankValue blank o t seat = made.seen in
    let firsts_are = each_item_of_set P firsts 0 (m + 1) m t within (λ j s from below ne d. inv.before j s d from (omega (arith, below, ne)))
    (λ d. subst (λ (x : GrowLock g.row.T.Denot). IsRootSeat (n + 1) t x) (sym (lock_there d)) (own, made.first_number_unchanged ∙ first.1, made.first_next_grows ∙ ap (λ (k : ℕ). k + 1) first.2)) in
    let seats_are = each_item_of_push Q seats m seat inv.long (λ j s from below d. inv.given j s d from below)
    (λ d. subst (λ (x : GrowLock g.row.T.Denot). IsSeatNumbered n seat x) (sym (lock_there d)) (made.belongs, made.has_number ∙ first.2, made.has_no_next)) in
    let fresh_are = each_item_of_push F seats m seat inv.long
    (λ j z from below s.
    let ne : j ≢ m = λ q. omega (arith, q, below) in
    let long = inv.long in
    subst (λ (x : Seat g.row.T.Denot). SeeSameBlankValue blank (slice_index_or olds j s) x (slice_index_or seats j z)) (sym (get_or-set_other firsts m j t s ne))
    (subst (λ (x : Seat g.row.T.Denot). SeeSameBlankValue blank (slice_index_or olds j s) (slice_index_or firsts j s) x) (get_or_default seats j s z (omega (arith, below, long))) (inv.seen j s below)))
    (λ s.
    subst (λ (x : Seat g.row.T.Denot). SeeSameBlankValue blank x (slice_index_or (slice_set firsts m t) m s) seat) (sym (old_there s))
    (subst (λ (x : Seat g.row.T.Denot). SeeSameBlankValue blank o x seat) (sym (get_or-set_same firsts m t s within)) fresh)) in
    record {
      eight = length-set firsts m t ∙ inv.eight;
      long = let k = inv.long in let a = ap length c.push_reserved.ensures.items in let b = length-append seats (seat ∷ []) in omega (arith, k, a, b);
      room = let r = inv.room in let k = c.push_reserved.ensures.capacity in omega (arith, r, k);
      before = λ i s d from below. firsts_are i s from below d;
      left = λ i s from below. let ne : i ≢ m = λ q. omega (arith, q, from) in get_or-set_other firsts m i t s ne ∙ inv.left i s (omega (arith, from)) below;
      given = subst (λ (ss : List (Seat g.row.T.Denot)). AtEachIndex (IsSeatNumbered n) ss locks 0 (m + 1)) (sym c.push_reserved.ensures.items) (λ i s d from below. seats_are i s from below d);
      seen = λ i s below.
          subst (λ (ss : List (Seat g.row.T.Denot)). SeeSameBlankValue blank (slice_index_or olds i s) (slice_index_or (slice_set firsts m t) i s) (slice_index_or ss i s)) (sym c.push_reserved.ensures.items)
          (fresh_are i s (omega arith) below s);
    }

pub returns-clause-first : goal.returns-clause-first
returns-clause-first g c =
    λ i x y from lt. let end = c.loop-index-test.false in c.loop-index.invariant.before i x y from (omega (arith, lt, end))

pub returns-clause-split_seat : goal.returns-clause-split_seat
returns-clause-split_seat g c =
    λ i x y from lt. let end = c.loop-index-test.false in c.loop-index.invariant.given i x y from (omega (arith, lt, end))
