use Rattle.std.proofs.Common.{◌≡◌, ◌++◌, vec_len}
use Rattle.sdb_transform.specs.CrossMachine.{right_frames}
use Rattle.sdb_transform.specs.CrossStack.{work_from_top}
use Rattle.sdb_transform.proofs.cross_stack.push_right.Given as goal

abbrev pub invariant-loop-component : goal.invariant-loop-component
invariant-loop-component l =
    right_frames l.run.items ++ work_from_top l.work.items ≡ right_frames l.initial.run.items ++ work_from_top l.initial.work.items

abbrev pub decreases-loop-component : goal.decreases-loop-component
decreases-loop-component l = vec_len l.run
