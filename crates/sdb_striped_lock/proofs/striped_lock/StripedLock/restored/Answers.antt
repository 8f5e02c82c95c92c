use Rattle.std.proofs.Common.{◌≡◌, ℕ, ◌+◌, ◌≤◌, ◌∷◌, ◌++◌, [], List, length, length-append, append_assoc, slice_index_or, sym, ap, ◌∙◌, subst, arith}
use Rattle.std.specs.Vec.Iter.{into_iter_items}
use Rattle.sdb_growlock.specs.LockRule.{ForEach}
use Rattle.sdb_growlock.specs.SeatModel.{HasSeen}
use Rattle.sdb_growlock.specs.declared.grow_lock.Seat.{Seat}
use Rattle.sdb_growlock.specs.declared.grow_lock.GrowLock.{GrowLock}
use Rattle.sdb_striped_lock.specs.AtIndex.{AtEachIndex}
use Rattle.sdb_striped_lock.specs.SeatSetModel.{IsRootSeat}
use Rattle.sdb_striped_lock.proofs.IndexLemmas.{at_each_of_push, for_each_at_seam, all_of_done}
use Rattle.sdb_striped_lock.proofs.striped_lock.StripedLock.restored.Goals as goal

pub new-requires-clause-blank : goal.new-requires-clause-blank
new-requires-clause-blank g c =
    let P : g.row.T.Denot → Type 0 = λ v. (k : ℕ) → c.args.next ≤ k → g.T.Grows.blank k v in
    let steps = c.in-Some.ensures.steps.0 in
    for_each_at_seam P c.loop-value.yielded (into_iter_items c.next.new.self) c.in-Some.value
    (subst (ForEach P) (sym (c.loop-value.invariant.values) ∙ ap (λ (l : List g.row.T.Denot). c.loop-value.yielded ++ l) steps) c.requires.blank)

pub loop-value-preserved : goal.loop-value-preserved
loop-value-preserved g c =
    let inv = c.loop-value.invariant in
    let done = c.loop-value.yielded in
    let m = length done in
    let n = c.args.next in
    let value = c.in-Some.value in
    let locks = c.loop-value.locks.items in
    let seats = c.loop-value.seats.items in
    let lock = c.in-Ok.lock in
    let seat = c.in-Ok.seat in
    let steps = c.in-Some.ensures.steps.0 in
    let long : length (done ++ value ∷ []) ≡ m + 1 = length-append done (value ∷ []) in
    let made = c.in-Ok.ensures.ok in
    let one : IsRootSeat n seat lock = (made.belongs, made.has_number, made.has_next) in
    let locks_are = c.push_reserved.ensures.items in
    let seats_are = c.push_reserved-in-Ok.ensures.items in
    let own : AtEachIndex (IsRootSeat n) (seats ++ seat ∷ []) (locks ++ lock ∷ []) 0 (m + 1) = at_each_of_push (IsRootSeat n) seats locks m seat lock inv.seats inv.locks inv.own one in
    let seen : AtEachIndex HasSeen (seats ++ seat ∷ []) (done ++ value ∷ []) 0 (m + 1) = at_each_of_push HasSeen seats done m seat value inv.seats (λ _. m) inv.seen made.has_seen in
    record {
      values = append_assoc done (value ∷ []) (into_iter_items c.next.new.self) ∙ ap (λ (l : List g.row.T.Denot). done ++ l) (sym steps) ∙ inv.values;
      locks = ap length locks_are ∙ length-append locks (lock ∷ []) ∙ ap (λ (k : ℕ). k + 1) inv.locks ∙ sym long;
      seats = ap length seats_are ∙ length-append seats (seat ∷ []) ∙ ap (λ (k : ℕ). k + 1) inv.seats ∙ sym long;
      room = (let r = inv.room.0 in let e = c.push_reserved.ensures.capacity in omega (arith, r, e), let r = inv.room.1 in let e = c.push_reserved-in-Ok.ensures.capacity in omega (arith, r, e));
      own = subst (λ (ss : List (Seat g.row.T.Denot)). AtEachIndex (IsRootSeat n) ss c.push_reserved.new.self.items 0 (length (done ++ value ∷ []))) (sym seats_are)
          (subst (λ (ls : List (GrowLock g.row.T.Denot)). AtEachIndex (IsRootSeat n) (seats ++ seat ∷ []) ls 0 (length (done ++ value ∷ []))) (sym locks_are)
          (subst (λ (k : ℕ). AtEachIndex (IsRootSeat n) (seats ++ seat ∷ []) (locks ++ lock ∷ []) 0 k) (sym long) own));
      seen = subst (λ (ss : List (Seat g.row.T.Denot)). AtEachIndex HasSeen ss (done ++ value ∷ []) 0 (length (done ++ value ∷ []))) (sym seats_are)
          (subst (λ (k : ℕ). AtEachIndex HasSeen (seats ++ seat ∷ []) (done ++ value ∷ []) 0 k) (sym long) seen);
    }

pub invariant_of-result : goal.invariant_of-result
invariant_of-result g c =
    let inv = c.loop-value.invariant in
    let all = all_of_done c.loop-value.yielded (into_iter_items c.loop-value.value-iterator) c.args.values.items inv.values (sym c.loop-value.value-iterator.rest.ok.0 ∙ c.in-None.ensures.steps.0) in
    record { has_every_stripe = inv.locks ∙ ap length all ∙ c.requires.length }

pub returns-clause-belongs : goal.returns-clause-belongs
returns-clause-belongs g c =
    let inv = c.loop-value.invariant in
    let all = all_of_done c.loop-value.yielded (into_iter_items c.loop-value.value-iterator) c.args.values.items inv.values (sym c.loop-value.value-iterator.rest.ok.0 ∙ c.in-None.ensures.steps.0) in
    let eight : length c.loop-value.yielded ≡ 8 = ap length all ∙ c.requires.length in
    ((c.requires.first, λ i x y from lt. inv.own i x y from (omega (arith, lt, eight))), λ _. c.args.next)

pub returns-clause-seen : goal.returns-clause-seen
returns-clause-seen g c =
    λ i d lt s.
    let inv = c.loop-value.invariant in
    let all = all_of_done c.loop-value.yielded (into_iter_items c.loop-value.value-iterator) c.args.values.items inv.values (sym c.loop-value.value-iterator.rest.ok.0 ∙ c.in-None.ensures.steps.0) in
    let eight : length c.loop-value.yielded ≡ 8 = ap length all ∙ c.requires.length in
    subst (λ (l : List g.row.T.Denot). HasSeen (slice_index_or c.loop-value.seats.items i s) (slice_index_or l i d)) all (inv.seen i s d (omega arith) (omega (arith, lt, eight)))
