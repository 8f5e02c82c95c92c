use Rattle.std.proofs.Common.{◌≡◌, ℕ, ◌+◌, ◌-◌, ◌∷◌, [], List, length, length-append, slice_index_or, Vec, vec_len, sym, ap, ◌∙◌, subst, arith}
use Rattle.std.specs.Global.{Global}
use Rattle.sdb_growlock.specs.LockRule.{ForEach}
use Rattle.sdb_growlock.specs.SeatModel.{BelongsTo}
use Rattle.sdb_growlock.specs.declared.grow_lock.Seat.{Seat}
use Rattle.sdb_growlock.specs.declared.grow_lock.GrowLock.{GrowLock}
use Rattle.sdb_striped_lock.specs.CloseModel.{HasEverySeat, IsValueAfterClose}
use Rattle.sdb_striped_lock.proofs.IndexLemmas.{each_item_of_push, length_of_pop, last_of_pop, get_or_pop}
use Rattle.sdb_striped_lock.proofs.operations.close_stripes.Goals as goal

pub close-requires-clause-belongs : goal.close-requires-clause-belongs
close-requires-clause-belongs g c =
    let inv = c.loop-lock.invariant in
    let n = length_of_pop c.loop-lock.locks.items c.pop.new.self.items c.args.locks.items c.in-Some.lock c.in-Some.ensures.items inv.locks in
    let k = length_of_pop c.loop-lock.columns.items c.pop-in-Some.new.self.items c.args.columns.items c.in-Some-pop.column c.in-Some-pop.ensures.items inv.columns in
    let m = length c.pop.new.self.items in
    let a = inv.all in
    let s = inv.same in
    let at : length c.pop-in-Some.new.self.items ≡ m = omega (arith, n, k, s) in
    let lock = last_of_pop c.loop-lock.locks.items c.pop.new.self.items c.args.locks.items c.in-Some.lock c.in-Some.ensures.items inv.locks c.in-Some.lock in
    let column = ap (λ (j : ℕ). slice_index_or c.args.columns.items j c.in-Some-pop.column) (sym at) ∙ last_of_pop c.loop-lock.columns.items c.pop-in-Some.new.self.items c.args.columns.items c.in-Some-pop.column c.in-Some-pop.ensures.items inv.columns c.in-Some-pop.column in
    subst (λ (l : GrowLock g.row.T.Denot). ForEach (λ s. BelongsTo s l) c.in-Some-pop.column.items) lock
    (subst (λ (v : Vec (Seat g.row.T.Denot) Global). ForEach (λ s. BelongsTo s (slice_index_or c.args.locks.items m c.in-Some.lock)) v.items) column
    (c.requires.belongs m c.in-Some.lock c.in-Some-pop.column (omega arith) (omega (arith, n, a))))

pub close-requires-clause-first : goal.close-requires-clause-first
close-requires-clause-first g c =
    let inv = c.loop-lock.invariant in
    let n = length_of_pop c.loop-lock.locks.items c.pop.new.self.items c.args.locks.items c.in-Some.lock c.in-Some.ensures.items inv.locks in
    let k = length_of_pop c.loop-lock.columns.items c.pop-in-Some.new.self.items c.args.columns.items c.in-Some-pop.column c.in-Some-pop.ensures.items inv.columns in
    let a = inv.all in
    let s = inv.same in
    let column = last_of_pop c.loop-lock.columns.items c.pop-in-Some.new.self.items c.args.columns.items c.in-Some-pop.column c.in-Some-pop.ensures.items inv.columns c.in-Some-pop.column in
    (subst (λ (v : Vec (Seat g.row.T.Denot) Global). HasEverySeat v.items) column (c.requires.all (length c.pop-in-Some.new.self.items) c.in-Some-pop.column (omega (arith, n, k, s, a)))).0

pub close-requires-clause-all : goal.close-requires-clause-all
close-requires-clause-all g c =
    let inv = c.loop-lock.invariant in
    let n = length_of_pop c.loop-lock.locks.items c.pop.new.self.items c.args.locks.items c.in-Some.lock c.in-Some.ensures.items inv.locks in
    let k = length_of_pop c.loop-lock.columns.items c.pop-in-Some.new.self.items c.args.columns.items c.in-Some-pop.column c.in-Some-pop.ensures.items inv.columns in
    let a = inv.all in
    let s = inv.same in
    let column = last_of_pop c.loop-lock.columns.items c.pop-in-Some.new.self.items c.args.columns.items c.in-Some-pop.column c.in-Some-pop.ensures.items inv.columns c.in-Some-pop.column in
    (subst (λ (v : Vec (Seat g.row.T.Denot) Global). HasEverySeat v.items) column (c.requires.all (length c.pop-in-Some.new.self.items) c.in-Some-pop.column (omega (arith, n, k, s, a)))).1

pub loop-lock-preserved : goal.loop-lock-preserved
loop-lock-preserved g c =
    let r = g.T.Grows in
    let inv = c.loop-lock.invariant in
    let n = length_of_pop c.loop-lock.locks.items c.pop.new.self.items c.args.locks.items c.in-Some.lock c.in-Some.ensures.items inv.locks in
    let k = length_of_pop c.loop-lock.columns.items c.pop-in-Some.new.self.items c.args.columns.items c.in-Some-pop.column c.in-Some-pop.ensures.items inv.columns in
    let a = inv.all in
    let s = inv.same in
    let values = c.loop-lock.values.items in
    let v = c.close.result in
    let long : length c.push_reserved.new.self.items ≡ length values + 1 = ap length c.push_reserved.ensures.items ∙ length-append values (v ∷ []) in
    let P : ℕ → g.row.T.Denot → Type 0 = λ i v. (x : Vec (Seat g.row.T.Denot) Global) → IsValueAfterClose r.extends r.same r.blank (slice_index_or c.args.columns.items (7 - i) x).items v in
    let at : length c.pop-in-Some.new.self.items ≡ 7 - length values = omega (arith, n, k, a, s) in
    let here : P (length values) v = λ x.
    subst (λ (y : Vec (Seat g.row.T.Denot) Global). IsValueAfterClose r.extends r.same r.blank y.items v)
    (sym (ap (λ (j : ℕ). slice_index_or c.args.columns.items j x) (sym at) ∙ last_of_pop c.loop-lock.columns.items c.pop-in-Some.new.self.items c.args.columns.items c.in-Some-pop.column c.in-Some-pop.ensures.items inv.columns x))
    (c.close.ensures.seen, c.close.ensures.blank) in
    let all = each_item_of_push P values (length values) v (omega arith) (λ i y from lt x. inv.gives i x y lt) here in
    record {
      same = omega (arith, n, k, s);
      all = omega (arith, n, a, long);
      room = let q = c.push_reserved.ensures.capacity in let p = inv.room in omega (arith, p, q);
      locks = get_or_pop c.loop-lock.locks.items c.pop.new.self.items c.args.locks.items c.in-Some.lock c.in-Some.ensures.items inv.locks;
      columns = get_or_pop c.loop-lock.columns.items c.pop-in-Some.new.self.items c.args.columns.items c.in-Some-pop.column c.in-Some-pop.ensures.items inv.columns;
      gives = λ i x y lt. subst (λ (vs : List g.row.T.Denot). IsValueAfterClose r.extends r.same r.blank (slice_index_or c.args.columns.items (7 - i) x).items (slice_index_or vs i y)) (sym c.push_reserved.ensures.items)
          (all i y (omega arith) (omega (arith, lt, long)) x);
    }

pub returns-clause-values : goal.returns-clause-values
returns-clause-values g c =
    λ i x y from lt.
    let r = g.T.Grows in
    let inv = c.loop-lock.invariant in
    let a = inv.all in
    let none = c.in_default.ensures.cases.0 in
    let locks = c.loop-lock.locks.ok.0 in
    let values = c.loop-lock.values.ok.0 in
    let eight : length c.loop-lock.values.items ≡ 8 = omega (arith, a, none, locks) in
    let back : 7 - (7 - i) ≡ i = omega (arith, lt) in
    let at : vec_len c.loop-lock.values - 1 - i ≡ 7 - i = omega (arith, eight, values) in
    let value : slice_index_or c.reverse.new.self.items i y ≡ slice_index_or c.loop-lock.values.items (7 - i) y =
    c.reverse.ensures.by_index i y (omega (arith, eight, values, lt)) ∙ ap (λ (j : ℕ). slice_index_or c.loop-lock.values.items j y) at in
    subst (λ (v : g.row.T.Denot). IsValueAfterClose r.extends r.same r.blank (slice_index_or c.args.columns.items i x).items v) (sym value)
    (subst (λ (j : ℕ). IsValueAfterClose r.extends r.same r.blank (slice_index_or c.args.columns.items j x).items (slice_index_or c.loop-lock.values.items (7 - i) y)) back
    (inv.gives (7 - i) x y (omega (arith, eight))))
