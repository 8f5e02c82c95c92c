use Rattle.std.proofs.Common.{◌≡◌, ◌∷◌, ◌++◌, ap, ◌∙◌, arith}
use Rattle.std.proofs.lemmas.Result.{err_from_is_err_and}
use Rattle.sdb_transform.specs.Classification.{transformed_components}
use Rattle.sdb_transform.specs.CrossStack.{from_top, work_from_top}
use Rattle.sdb_transform.specs.CrossMachine.{RightChange, LeftChanges, right_frames}
use Rattle.sdb_transform.proofs.CrossRun.{on_ok_then, none_preserves, meet_preserves, meet_falls, meet_refused}
use Rattle.sdb_transform.proofs.cross_stack.CrossState.transform_next.Goals as goal

pub returns-in_err-pieces-clause-refused : goal.returns-in_err-pieces-clause-refused
returns-in_err-pieces-clause-refused c =
    let p = err_from_is_err_and c.from_residual.result c.from_residual.ensures.1 in
    let self = c.loop-left.self in
    let S = work_from_top self.right.items in
    rw (p.1, p.2) (λ goal h. meet_refused goal c.loop-left.right (from_top self.left.items) (from_top c.pop_left.new.waiting.items) S S self.right_done.items self.pairs c.in-Some.left c.in-Some.ensures c.in_err-pieces.field-0.0 c.in_err-pieces.ensures.err (c.loop-left.invariant.keeps goal h))

pub loop-left-preserved : goal.loop-left-preserved
loop-left-preserved c =
    let self = c.loop-left.self in
    let both = c.in_ok-pieces in
    let ls = transformed_components both.pieces in
    let rs = transformed_components both.run' in
    let W = from_top self.left.items in
    let W' = from_top c.pop_left.new.waiting.items in
    let S = work_from_top self.right.items in
    let S' = RightChange c.in-One.next ∷ work_from_top c.push_left.new.work.items in
    let work : S' ≡ right_frames rs ++ (LeftChanges ls ∷ S) = rw c.in-One.is (ap (λ s. RightChange c.in-One.next ∷ s) c.in_ok-push_left.ensures.ok) in
    let less = meet_falls c.in-Some.left c.loop-left.right W W' S S' ls rs c.in-Some.ensures both.ensures.left both.ensures.right work in
    record {
      keeps = λ goal h. meet_preserves goal c.loop-left.right W W' S S' self.right_done.items self.pairs c.in-Some.left _ ls rs c.in-Some.ensures both.ensures.left both.ensures.right c.saturating_add-self.ensures work (c.loop-left.invariant.keeps goal h);
      falls = omega (arith, less, c.loop-left.invariant.falls);
    }

pub returns-in-Many-clause-invariant_preserved : goal.returns-in-Many-clause-invariant_preserved
returns-in-Many-clause-invariant_preserved c =
    let self = c.loop-left.self in
    let both = c.in_ok-pieces in
    let ls = transformed_components both.pieces in
    let rs = transformed_components both.run' in
    let S = work_from_top self.right.items in
    let S' = work_from_top c.push_right.new.work.items in
    on_ok_then c.push_right.result c.push_right.ensures.ok (λ e goal h.
    let work : S' ≡ right_frames rs ++ (LeftChanges ls ∷ S) = rw c.in-Many.is (e ∙ ap (λ s. right_frames c.in-Many.run'.items ++ s) c.in_ok-push_left.ensures.ok) in
    meet_preserves goal c.loop-left.right (from_top self.left.items) (from_top c.pop_left.new.waiting.items) S S' self.right_done.items self.pairs c.in-Some.left _ ls rs c.in-Some.ensures both.ensures.left both.ensures.right c.saturating_add-self.ensures work (c.loop-left.invariant.keeps goal h))

pub returns-in-Many-clause-bound_decreases : goal.returns-in-Many-clause-bound_decreases
returns-in-Many-clause-bound_decreases c =
    let self = c.loop-left.self in
    let both = c.in_ok-pieces in
    let ls = transformed_components both.pieces in
    let rs = transformed_components both.run' in
    let S = work_from_top self.right.items in
    let S' = work_from_top c.push_right.new.work.items in
    on_ok_then c.push_right.result c.push_right.ensures.ok (λ e.
    let work : S' ≡ right_frames rs ++ (LeftChanges ls ∷ S) = rw c.in-Many.is (e ∙ ap (λ s. right_frames c.in-Many.run'.items ++ s) c.in_ok-push_left.ensures.ok) in
    let less = meet_falls c.in-Some.left c.loop-left.right (from_top self.left.items) (from_top c.pop_left.new.waiting.items) S S' ls rs c.in-Some.ensures both.ensures.left both.ensures.right work in
    omega (arith, less, c.loop-left.invariant.falls))

pub returns-clause-invariant_preserved : goal.returns-clause-invariant_preserved
returns-clause-invariant_preserved c =
    let self = c.loop-left.self in
    let S = work_from_top self.right.items in
    λ goal h. none_preserves goal c.loop-left.right (from_top self.left.items) (from_top c.pop_left.new.waiting.items) S S self.right_done.items self.pairs _ c.in_default.ensures.0 c.in_default.ensures.1 c.in_ok-push.ensures.items (c.loop-left.invariant.keeps goal h)
