use Rattle.std.proofs.Common.{◌-◌, length}
use Rattle.sdb_linefile.specs.Damage.{page_size_of}
use Rattle.sdb_linefile.proofs.LostFrames.{IsReadTo}
use Rattle.sdb_linefile.proofs.damage.has_lost_frame.Given as goal

abbrev pub invariant-loop-at : goal.invariant-loop-at
invariant-loop-at l = IsReadTo (page_size_of l.fn.log) l.fn.log l.at l.sum l.is_lost

abbrev pub decreases-loop-at : goal.decreases-loop-at
decreases-loop-at l = length l.fn.log - l.at
