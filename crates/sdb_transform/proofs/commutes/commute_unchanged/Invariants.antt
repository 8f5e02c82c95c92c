use Rattle.std.specs.List.{All, AllWithin}
use Rattle.sdb_transform.specs.Classification.{CommuteUnchanged}
use Rattle.sdb_transform.proofs.commutes.commute_unchanged.Given as goal

abbrev pub invariant-loop-component : goal.invariant-loop-component
invariant-loop-component l = AllWithin (λ c. All (CommuteUnchanged l.fn.side c) l.others) l.components 0 l.component-index
