use Rattle.std.proofs.Common.{refl}
use Rattle.sdb_transform.specs.Classification.{CommuteUnchanged}
use Rattle.sdb_transform.proofs.UnchangedLemmas.{one_more}
use Rattle.sdb_transform.proofs.commutes.unchanged_against.Goals as goal

pub loop-other-preserved : goal.loop-other-preserved
loop-other-preserved c = one_more (CommuteUnchanged c.args.side c.args.component.now) c.args.others.now c.loop-other.other-index c.other-item.result c.loop-other-test.true c.other-item.is (c.if-not-commute.ensures refl) c.loop-other.invariant
