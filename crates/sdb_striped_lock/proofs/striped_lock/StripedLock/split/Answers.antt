use Rattle.std.proofs.Common.{rules, ℕ, subst, arith}
use Rattle.sdb_striped_lock.specs.laws.SeatLaws.{element_at, seen_at_index}
use Rattle.sdb_striped_lock.proofs.striped_lock.StripedLock.split.Goals as goal

pub returns-clause-ok : goal.returns-clause-ok
returns-clause-ok g c =
    let old = c.args.first.now.seats.items in
    let new = c.split_stripes-seats.new.firsts.items in
    let made = c.split_stripes-seats.result.items in
    let e0 = c.args.first.now.has_every_stripe in
    let e = c.split_stripes-seats.ensures.length in
    let s = element_at old 8 e0 (omega arith) in
    let l = element_at c.args.self.now.locks.items 8 c.args.self.now.has_every_stripe (omega arith) in
    record {
      belongs = search rules;
      has_number = search rules;
      below_max = search rules;
      next_grows = search rules;
      seen = λ i lt.
          let f = c.split_stripes-seats.ensures.seen i s lt in
          let number = (c.split_stripes-seats.ensures.split_seat i s l (omega arith) lt).1 in
          let e1 = e.0 in
          let e2 = e.1 in (
            f.0,
            seen_at_index old i s f.0 (omega (arith, lt, e0)) f.1,
            seen_at_index new i s f.0 (omega (arith, lt, e1)) f.2,
            seen_at_index made i s f.0 (omega (arith, lt, e2)) f.3,
            subst (λ (k : ℕ). g.T.Grows.blank k f.0) number f.4,
          );
    }
