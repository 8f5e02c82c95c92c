use Rattle.std.proofs.Common.{◌≡◌, ◌≤◌, ◌<◌, ◌+◌, ◌-◌, ◌/◌, suc, length, drop, sym, ap, ◌∙◌, subst, arith}
use Rattle.sdb_oplog.specs.Moments.{version_at, MomentsOrderedFrom}
use Rattle.sdb_oplog.proofs.VersionSearch.{prefix_counts, back_counts, halves_meet}
use Rattle.sdb_oplog.proofs.log.Log.version_at.Goals as goal

pub loop-low-preserved-then-milliseconds : goal.loop-low-preserved-then-milliseconds
loop-low-preserved-then-milliseconds c =
    let es = c.as_slice-entries.result.now in
    let m = c.loop-low.low + (c.loop-low.high - c.loop-low.low) / 2 in
    let e = c.index-entries-middle.result in
    let within : m < length es = omega arith in
    let one : m + 1 ≡ suc m = omega arith in
    let time : MomentsOrderedFrom 0 es = subst (MomentsOrderedFrom 0) (sym c.as_slice-entries.ensures.value) c.self.invariant.0.moments_ordered in
    let early : e.moment ≤ c.args.moment =
    omega (arith, c.if-milliseconds.true, c.milliseconds.ensures, c.milliseconds-in-loop-low.ensures, c.moment.ensures) in
    record {
      ordered = omega arith;
      within = c.loop-low.invariant.within;
      counted = prefix_counts 0 es m (m + 1) e c.args.moment one time within c.index-entries-middle.is early;
      rest = c.loop-low.invariant.rest;
    }

pub loop-low-preserved : goal.loop-low-preserved
loop-low-preserved c =
    let es = c.as_slice-entries.result.now in
    let m = c.loop-low.low + (c.loop-low.high - c.loop-low.low) / 2 in
    let e = c.index-entries-middle.result in
    let within : m < length es = omega arith in
    let time : MomentsOrderedFrom 0 es = subst (MomentsOrderedFrom 0) (sym c.as_slice-entries.ensures.value) c.self.invariant.0.moments_ordered in
    let late : c.args.moment < e.moment =
    omega (arith, c.if-milliseconds.false, c.milliseconds.ensures, c.milliseconds-in-loop-low.ensures, c.moment.ensures) in
    record {
      ordered = omega arith;
      within = omega arith;
      counted = c.loop-low.invariant.counted;
      rest = back_counts 0 es m e c.args.moment time within c.index-entries-middle.is late;
    }

pub returns : goal.returns
returns c =
    let es = c.as_slice-entries.result.now in
    let same : c.loop-low.high ≡ c.loop-low.low = omega arith in
    let rest : version_at (drop c.loop-low.low es) c.args.moment ≡ 0 =
    subst (λ n. version_at (drop n es) c.args.moment ≡ 0) same c.loop-low.invariant.rest in
    sym (halves_meet es c.loop-low.low c.args.moment c.loop-low.invariant.counted rest)
    ∙ ap (λ l. version_at l c.args.moment) (c.as_slice-entries.ensures.value ∙ c.self.view_is)
