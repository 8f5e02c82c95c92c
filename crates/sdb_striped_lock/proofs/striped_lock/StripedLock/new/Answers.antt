use Rattle.std.proofs.Common.{◌≡◌, ℕ, ◌+◌, ◌∷◌, [], length, length-append, slice_index_or, sym, ap, ◌∙◌, subst, arith}
use Rattle.sdb_growlock.specs.LockRule.{ForEach}
use Rattle.sdb_striped_lock.specs.laws.SeatLaws.{element_at}
use Rattle.sdb_striped_lock.proofs.IndexLemmas.{if_ok_mono, for_each_of_push, for_each_mono, for_each_at}
use Rattle.sdb_striped_lock.proofs.striped_lock.StripedLock.new.Goals as goal

pub loop-index-preserved : goal.loop-index-preserved
loop-index-preserved g c =
    let inv = c.loop-index.invariant in
    let values = c.loop-index.values.items in
    let value = c.empty.result in
    let P : g.row.T.Denot → Type 0 = λ v. (k : ℕ) → g.T.Grows.blank k v in
    let are = c.push_reserved.ensures.items in
    record {
      length = ap length are ∙ length-append values (value ∷ []) ∙ ap (λ (k : ℕ). k + 1) inv.length;
      room = let r = inv.room in let e = c.push_reserved.ensures.capacity in omega (arith, r, e);
      blank = subst (ForEach P) (sym are) (for_each_of_push P values value inv.blank c.empty.ensures);
    }

pub restored-requires-clause-blank : goal.restored-requires-clause-blank
restored-requires-clause-blank g c =
    let P : g.row.T.Denot → Type 0 = λ v. (k : ℕ) → g.T.Grows.blank k v in
    for_each_mono P _ (λ v h k from. h k) c.loop-index.values.items c.loop-index.invariant.blank

pub returns-clause-seen : goal.returns-clause-seen
returns-clause-seen g c =
    let values = c.loop-index.values.items in
    let P : g.row.T.Denot → Type 0 = λ v. (k : ℕ) → g.T.Grows.blank k v in
    let end = c.loop-index-test.false in
    let up = c.loop-index.auto._index-end in
    let n = c.loop-index.invariant.length in
    let eight : length values ≡ 8 = omega (arith, n, end, up) in
    let d = element_at values 8 eight (omega arith) in
    if_ok_mono c.restored.result (λ made seen i lt. (slice_index_or values i d, seen i d lt, for_each_at P values i d (omega (arith, lt, eight)) c.loop-index.invariant.blank)) c.restored.ensures.seen
