use Rattle.std.proofs.Common.{◌<◌, ap, sym, ◌∙◌, length, arith}
use Rattle.sdb_value.specs.View.{plain_step}
use Rattle.sdb_value.proofs.EqualityLemmas.{alike_at}
use Rattle.sdb_value.proofs.equality.paths_equal.Goals as goal

-- paths that differ at a step are different
pub returns-then-not-steps_equal-clause-on_false : goal.returns-then-not-steps_equal-clause-on_false
returns-then-not-steps_equal-clause-on_false c f h =
    let a = c.args.a.now in
    let b = c.args.b.now in
    let x = c.index-a-at.result in
    let y = c.index-b-at.result in
    let within : c.loop-at.at < length b = omega (arith, c.loop-at-test.true, c.loop-at.invariant.long) in
    let same = alike_at plain_step a b c.loop-at.at x y c.loop-at-test.true within h in
    c.if-not-steps_equal.ensures.on_false f (ap plain_step c.index-a-at.is ∙ same ∙ sym (ap plain_step c.index-b-at.is))
