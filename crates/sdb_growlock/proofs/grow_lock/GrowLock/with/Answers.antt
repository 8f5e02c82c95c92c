use Rattle.std.proofs.Common.{rules, ap, subst, sym, refl, Some, None}
use Rattle.sdb_growlock.specs.LockRule.{ForEach, holder_view}
use Rattle.sdb_growlock.proofs.SeatViews.{M, idle_view_of_fields, fields_of_idle_view, same_value, holder_view_of_acquire, slot_of_acquire, slot_after_exchange, idle_view_of_release}
use Rattle.sdb_growlock.proofs.grow_lock.GrowLock.with.Goals as goal

pub acquire-requires-clause-one : goal.acquire-requires-clause-one
acquire-requires-clause-one g c = let s = c.args.seat.now in let h = s.is_idle in let t = idle_view_of_fields s.inner.me s.number s.next h.0 h.1 h.2 h.3 h.4 in (s.number, t.0, ap (λ (m : M g.row.T.Denot). m.0.seen) t.1)

pub exchange-requires : goal.exchange-requires
exchange-requires g c = let s = c.args.seat.now in let h = s.is_idle in let t = idle_view_of_fields s.inner.me s.number s.next h.0 h.1 h.2 h.3 h.4 in let k = c.acquire.ensures.taken in
    (search rules, slot_of_acquire s.inner.me c.acquire.new.table_seat.me s.number s.next t.0 k.0 t.1 k.1)

pub run-answer-requires : goal.run-answer-requires
run-answer-requires g c = let s = c.args.seat.now in let h = s.is_idle in let t = idle_view_of_fields s.inner.me s.number s.next h.0 h.1 h.2 h.3 h.4 in let k = c.acquire.ensures.taken in
    let r = g.T.Grows in
    let e = same_value k.0 c.in-Some.value t.0 _ _ _ _ (ap (λ (m : M g.row.T.Denot). m.1) k.1) c.exchange.ensures.2 c.in-Some.is in
    let one = ap (λ (m : M g.row.T.Denot). m.0.seen) t.1 in
    let p = (subst (ForEach (λ p. r.extends k.0 p.value × r.same p.number p.value k.0)) one k.2).0 in
    subst (g.J.Job.precondition c.args.job s.number) e (c.requires.ready t.0 k.0 one p.0 p.1)

pub release-requires-clause-extended : goal.release-requires-clause-extended
release-requires-clause-extended g c = let s = c.args.seat.now in let h = s.is_idle in let t = idle_view_of_fields s.inner.me s.number s.next h.0 h.1 h.2 h.3 h.4 in let k = c.acquire.ensures.taken in
    let r = g.T.Grows in
    let e = same_value k.0 c.in-Some.value t.0 _ _ _ _ (ap (λ (m : M g.row.T.Denot). m.1) k.1) c.exchange.ensures.2 c.in-Some.is in
    let m1 = holder_view_of_acquire s.inner.me c.acquire.new.table_seat.me s.number s.next t.0 k.0 t.1 k.1 in
    let m2 = slot_after_exchange _ _ (holder_view s.number k.0 s.next) _ None m1 c.exchange.ensures.3 in
    let m3 = slot_after_exchange _ _ (holder_view s.number k.0 s.next) _ (Some c.run-answer.new.value) m2 c.exchange-left.ensures.3 in (
      s.number,
      s.next,
      k.0,
      c.run-answer.new.value,
      m3,
      subst (λ (v : g.row.T.Denot). r.extends c.run-answer.new.value v) (sym e) c.run-answer.ensures.extends,
      λ j ne. subst (λ (v : g.row.T.Denot). r.same j v c.run-answer.new.value) (sym e) (c.run-answer.ensures.others_unchanged j ne),
    )

pub invariant_of-seat : goal.invariant_of-seat
invariant_of-seat g c = let s = c.args.seat.now in let h = s.is_idle in let t = idle_view_of_fields s.inner.me s.number s.next h.0 h.1 h.2 h.3 h.4 in let k = c.acquire.ensures.taken in
    let m1 = holder_view_of_acquire s.inner.me c.acquire.new.table_seat.me s.number s.next t.0 k.0 t.1 k.1 in
    let m2 = slot_after_exchange _ _ (holder_view s.number k.0 s.next) _ None m1 c.exchange.ensures.3 in
    let m3 = slot_after_exchange _ _ (holder_view s.number k.0 s.next) _ (Some c.run-answer.new.value) m2 c.exchange-left.ensures.3 in
    let m4 = idle_view_of_release _ _ s.number s.next k.0 c.run-answer.new.value m3 c.release.ensures.released in
    record { is_idle = fields_of_idle_view c.release.new.table_seat.me s.number s.next c.run-answer.new.value m4 }

pub returns-clause-ran : goal.returns-clause-ran
returns-clause-ran g c = let s = c.args.seat.now in let h = s.is_idle in let t = idle_view_of_fields s.inner.me s.number s.next h.0 h.1 h.2 h.3 h.4 in let k = c.acquire.ensures.taken in
    let r = g.T.Grows in
    let e = same_value k.0 c.in-Some.value t.0 _ _ _ _ (ap (λ (m : M g.row.T.Denot). m.1) k.1) c.exchange.ensures.2 c.in-Some.is in
    let one = ap (λ (m : M g.row.T.Denot). m.0.seen) t.1 in
    let p = (subst (ForEach (λ p. r.extends k.0 p.value × r.same p.number p.value k.0)) one k.2).0 in
    let m1 = holder_view_of_acquire s.inner.me c.acquire.new.table_seat.me s.number s.next t.0 k.0 t.1 k.1 in
    let m2 = slot_after_exchange _ _ (holder_view s.number k.0 s.next) _ None m1 c.exchange.ensures.3 in
    let m3 = slot_after_exchange _ _ (holder_view s.number k.0 s.next) _ (Some c.run-answer.new.value) m2 c.exchange-left.ensures.3 in
    let m4 = idle_view_of_release _ _ s.number s.next k.0 c.run-answer.new.value m3 c.release.ensures.released in (
      t.0,
      c.in-Some.value,
      c.run-answer.new.value,
      one,
      subst (λ (v : g.row.T.Denot). r.extends v t.0) e p.0,
      subst (λ (v : g.row.T.Denot). r.same s.number t.0 v) e p.1,
      c.run-answer.ensures.postcondition,
      subst (λ (v : g.row.T.Denot). r.extends c.run-answer.new.value v) refl c.run-answer.ensures.extends,
      c.run-answer.ensures.others_unchanged,
      ap (λ (m : M g.row.T.Denot). m.0.seen) m4,
    )
