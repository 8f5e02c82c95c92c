use Rattle.std.specs.List.{AllWithin}
use Rattle.sdb_transform.specs.Classification.{CommuteUnchanged}
use Rattle.sdb_transform.proofs.commutes.unchanged_against.Given as goal

abbrev pub invariant-loop-other : goal.invariant-loop-other
invariant-loop-other l = AllWithin (CommuteUnchanged l.fn.side l.component) l.others 0 l.other-index
