use Rattle.std.proofs.Common.{◌∙◌, ap, sym, ◌++◌}
use Rattle.sdb_transform.proofs.StackLemmas.{stack_push, moves_push}
use Rattle.sdb_transform.specs.CrossMachine.{right_frames}
use Rattle.sdb_transform.specs.CrossStack.{work_from_top}
use Rattle.sdb_transform.proofs.cross_stack.push_right.Goals as goal

pub loop-component-preserved : goal.loop-component-preserved
loop-component-preserved c =
    ap (λ s. right_frames c.pop.new.self.items ++ s) (ap work_from_top c.in_ok-push.ensures.items ∙ stack_push _ _)
    ∙ sym (moves_push c.pop.new.self.items c.in-Some.component (work_from_top c.loop-component.work.items))
    ∙ ap (λ xs. right_frames xs ++ work_from_top c.loop-component.work.items) (sym c.in-Some.ensures.items)
    ∙ c.loop-component.invariant
