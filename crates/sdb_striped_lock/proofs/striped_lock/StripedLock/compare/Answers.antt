use Rattle.std.proofs.Common.{rules, ◌≡◌, ℕ, ◌<◌, List, length, slice_index_or, slice_set, sym, ◌∙◌, subst, arith}
use Rattle.sdb_growlock.specs.declared.grow_lock.GrowLock.{GrowLock}
use Rattle.sdb_growlock.specs.declared.grow_lock.Seat.{Seat}
use Rattle.sdb_growlock.specs.SeatModel.{IsSameSeat}
use Rattle.sdb_striped_lock.specs.AtIndex.{AtEachIndex}
use Rattle.sdb_striped_lock.specs.SeatSetModel.{IsSeatNumbered}
use Rattle.sdb_striped_lock.proofs.IndexLemmas.{get_or_is, each_item_of_set}
use Rattle.sdb_striped_lock.proofs.striped_lock.StripedLock.compare.Goals as goal

-- a seat that is set in place of one with its lock and number
seats_of_set : {T : Type 0} (xs : List (Seat T)) (ls : List (GrowLock T)) (n i : ℕ) (old new : Seat T) (lock : GrowLock T) → length xs ≡ 8 → length ls ≡ 8 → i < 8
    → old ≡ slice_index_or xs i old → lock ≡ slice_index_or ls i lock → AtEachIndex (IsSeatNumbered n) xs ls 0 8
    → IsSameSeat lock old new → AtEachIndex (IsSeatNumbered n) (slice_set xs i new) ls 0 8
seats_of_set xs ls n i old new lock many wide below is at all u =
    let was : IsSeatNumbered n old lock =
    subst (λ (s : Seat _). IsSeatNumbered n s lock) (sym is) (subst (λ (l : GrowLock _). IsSeatNumbered n (slice_index_or xs i old) l) (sym at) (all i old lock (omega arith) below)) in
    let P : ℕ → Seat _ → Type 0 = λ j s. (l : GrowLock _) → IsSeatNumbered n s (slice_index_or ls j l) in
    λ j s l from lt.
    each_item_of_set P xs 0 8 i new (omega (arith, many, below)) (λ k t low high ne m. all k t m low high)
    (λ m. subst (λ (q : GrowLock _). IsSeatNumbered n new q) (sym (get_or_is ls i lock m (omega (arith, wide, below)) at)) (u.belongs, u.number_unchanged ∙ was.1, u.next_unchanged ∙ was.2)) j s from lt l

pub returns-clause-first : goal.returns-clause-first
returns-clause-first g c =
    let s = c.args.first.now in
    record {
      belongs = seats_of_set s.seats.items c.args.self.now.locks.items s.number c.args.index c.index_mut.result.now c.compare.new.first c.index.result.now s.has_every_stripe c.args.self.now.has_every_stripe c.requires.index
          c.index_mut.ensures.value c.index.ensures c.requires.belongs.0 c.compare.ensures.first;
      number_unchanged = search rules;
      others_unchanged = search rules;
    }

pub returns-clause-second : goal.returns-clause-second
returns-clause-second g c =
    let s = c.args.second.now in
    record {
      belongs = seats_of_set s.seats.items c.args.self.now.locks.items s.number c.args.index c.index_mut-2.result.now c.compare.new.second c.index.result.now s.has_every_stripe c.args.self.now.has_every_stripe c.requires.index
          c.index_mut-2.ensures.value c.index.ensures c.requires.belongs.1 c.compare.ensures.second;
      number_unchanged = search rules;
      others_unchanged = search rules;
    }
