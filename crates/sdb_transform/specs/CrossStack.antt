-- Vectors as stacks, from the top, and the view of a crossing.
use Rattle.std.specs.Arc.{arc_value}
use Rattle.std.specs.Prelude.{◌⊎◌, ◌≡◌, ℕ, ◌-◌, ◌^◌, min, List, ◌++◌, map, reverse, true, Option, Some, None}
use Rattle.std.specs.Option.{is_some}
use Rattle.sdb_component.specs.Plain.{PlainComponent}
use Rattle.sdb_component.specs.Weight.{component_weight}
use Rattle.sdb_transform.specs.declared.cross_stack.Frame.{Frame}
use Rattle.sdb_transform.specs.declared.cross_stack.Frame.TheVariants.{LeftFrame, RightFrame}
use Rattle.sdb_transform.specs.declared.cross_stack.CrossState.{CrossState}
use Rattle.sdb_transform.specs.declared.op_transform.Crossed.{Crossed}
use Rattle.sdb_transform.specs.declared.op_transform.TransformedOp.{TransformedOp}
use Rattle.sdb_transform.specs.declared.op_transform.TransformedOp.TheVariants.{Unchanged, New}
use Rattle.sdb_transform.specs.declared.side.Fault.{Fault}
use Rattle.sdb_transform.specs.declared.side.Fault.TheVariants.{OutOfMemory, NotTransformed}
use Rattle.sdb_transform.specs.declared.side.Side.TheVariants.{Left, Right}
use Rattle.sdb_transform.specs.Cross.{Crossing, CrossResult, sum_weight}
use Rattle.sdb_transform.specs.Classification.{transformed_components}
use Rattle.sdb_transform.specs.Transform.{transform}
use Rattle.sdb_transform.specs.CrossMachine.{WorkItem, LeftChanges, RightChange, step_bound, StateInvariant}

abbrev pub work_item_of : Frame → WorkItem PlainComponent
work_item_of (LeftFrame pieces) = LeftChanges (transformed_components pieces)
work_item_of (RightFrame c) = RightChange c

unfoldable pub from_top : List PlainComponent → List PlainComponent
from_top cs = reverse cs

unfoldable pub work_from_top : List Frame → List (WorkItem PlainComponent)
work_from_top ps = reverse (map work_item_of ps)

-- the state of the loop for a goal, with this work on top
abbrev pub StateInvariantWith : List (WorkItem PlainComponent) → CrossResult → CrossState → Type 0
StateInvariantWith next goal p =
    StateInvariant (transform Left) (transform Right) component_weight goal (from_top p.left.items)
    (next ++ work_from_top p.right.items) p.right_done.items p.pairs

abbrev pub step_bound_with : List (WorkItem PlainComponent) → CrossState → ℕ
step_bound_with next p = step_bound component_weight (sum_weight component_weight (from_top p.left.items)) (next ++ work_from_top p.right.items)

-- the crossing exists and has these parts, with the number of pairs saturated at 128 bits
abbrev pub IsResultOfCross : Crossed → CrossResult → Type 0
IsResultOfCross c o =
    (x : Crossing PlainComponent) × (o ≡ Some x) × (c.left ≡ x.left) × (c.right ≡ x.right)
    × (c.pairs ≡ min x.pairs (2 ^ 128 - 1))

-- the operation as it was passed, or a new one; the transform in both cases
abbrev pub IsOpTransform : List PlainComponent → TransformedOp → Option (List PlainComponent) → Type 0
IsOpTransform op (Unchanged same) o = (arc_value same ≡ op) × (o ≡ Some op)
IsOpTransform op (New made) o = o ≡ Some made

-- one of both transforms is refused; or both exist, and an allocation failed
abbrev pub IsCrossFault : PlainComponent → PlainComponent → Fault → Type 0
IsCrossFault l r OutOfMemory = (is_some (transform Left l r) ≡ true) × (is_some (transform Right r l) ≡ true)
IsCrossFault l r NotTransformed = (transform Left l r ≡ None) ⊎ (transform Right r l ≡ None)
