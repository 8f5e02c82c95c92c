use Rattle.std.proofs.Common.{arith, refl}
use Rattle.std.specs.List.{All}
use Rattle.sdb_transform.specs.Classification.{CommuteUnchanged}
use Rattle.sdb_transform.proofs.UnchangedLemmas.{one_more, stays_rebased}
use Rattle.sdb_transform.proofs.commutes.commute_unchanged.Goals as goal

pub loop-component-preserved : goal.loop-component-preserved
loop-component-preserved c = one_more (λ x. All (CommuteUnchanged c.args.side x) c.args.others.now) c.args.components.now c.loop-component.component-index c.component-item.result c.loop-component-test.true c.component-item.is (c.if-not-unchanged_against.ensures refl) c.loop-component.invariant

pub returns : goal.returns
returns c done = stays_rebased c.args.side c.args.components.now c.args.others.now
    (λ k d within. c.loop-component.invariant k d (omega arith) (omega (arith, within, c.loop-component-test.false)))
