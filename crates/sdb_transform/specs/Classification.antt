-- The kind of a transform, and the components that each kind makes.
use Rattle.std.specs.Prelude.{◌≡◌, ℕ, ◌+◌, ◌<◌, ◌≤◌, Bool, nat_lt, nat_le, if◌then◌else◌, List, [], ◌∷◌, ◌++◌, map, take, drop, set, length, Option, Some, None, ⊤}
use Rattle.std.specs.Option.{option_map_or}
use Rattle.std.specs.String.Boundary.{IsSplitPoint}
use Rattle.sdb_component.specs.Plain.{PlainAct, si, sd, li, ld, lr, oi, or, PlainComponent}
use Rattle.sdb_transform.specs.declared.side.Side.{Side}
use Rattle.sdb_transform.specs.declared.side.Side.TheVariants.{Left, Right}
use Rattle.sdb_transform.specs.declared.classify.PositionChange.{PositionChange}
use Rattle.sdb_transform.specs.declared.classify.PositionChange.TheVariants.{Dropped, Unchanged, MovedTo}
use Rattle.sdb_transform.specs.declared.classify.TransformKind.{TransformKind}
use Rattle.sdb_transform.specs.declared.classify.TransformKind.TheVariants.{Refused, PositionOnly, Rewritten}
use Rattle.sdb_transform.specs.declared.rewrite.Rewrite.{Rewrite}
use Rattle.sdb_transform.specs.declared.rewrite.Rewrite.TheVariants.{MovedStep, UpdatedValue, SplitDelete, ReducedDelete, OverwrittenValue, InsertedValue}
use Rattle.sdb_transform.specs.declared.component_list.Transformed.{Transformed}
use Rattle.sdb_transform.specs.declared.component_list.Transformed.TheVariants.{One, Many}
use Rattle.sdb_value.specs.Value.{Value, PlainStep, index}
use Rattle.sdb_transform.specs.ActModel.{opposite}
use Rattle.sdb_transform.specs.Transform.{ActTransform, StepTransform, TransformResult, component_at, delete_unless_empty, map_removed, updated_value, transform}

-- ---- changes of a position

-- the act at another offset or index
abbrev pub with_position : ℕ → PlainAct → PlainAct
with_position n (si p s) = si n s
with_position n (sd p d) = sd n d
with_position n (li i v) = li n v
with_position n (ld i x) = ld n x
with_position n (lr i x y) = lr n x y
with_position n a = a

-- the act after a position change
abbrev pub reposition_act : PositionChange → PlainAct → List PlainAct
reposition_act Dropped a = []
reposition_act Unchanged a = a ∷ []
reposition_act (MovedTo n) a = with_position n a ∷ []

-- the component after a position change
abbrev pub reposition_component : PositionChange → PlainComponent → List PlainComponent
reposition_component Dropped c = []
reposition_component Unchanged c = c ∷ []
reposition_component (MovedTo n) c = component_at c.path (with_position n c.act) ∷ []

-- both set one position: the left one overwrites the other's value, the right one is dropped
abbrev pub overwrite_kind : Side → TransformKind
overwrite_kind Left = Rewritten OverwrittenValue
overwrite_kind Right = PositionOnly Dropped

-- whether an insert goes after the other one's
abbrev pub inserts_after : ℕ → ℕ → Side → Bool
inserts_after position other Left = nat_lt other position
inserts_after position other Right = nat_le other position

-- to a greater offset or index, unless it exceeds the maximum
abbrev pub shift_up : ℕ → ℕ → TransformKind
shift_up position by = if nat_le (position + by) 9007199254740991 then PositionOnly (MovedTo (position + by)) else Refused

-- ---- rewrites

-- the value that an act sets
abbrev pub new_value : PlainAct → Option Value
new_value (lr i x y) = Some y
new_value (oi k y) = Some y
new_value (or k x y) = Some y
new_value a = None

-- the act that replaces this value
abbrev pub overwrite_value : PlainAct → Value → PlainAct
overwrite_value (lr i x z) y = lr i y z
overwrite_value (oi k z) y = or k y z
overwrite_value (or k x z) y = or k y z
overwrite_value a y = a

-- the act that inserts its new value and replaces none
abbrev pub insert_value : PlainAct → PlainAct
insert_value (lr i x z) = li i z
insert_value (or k x z) = oi k z
insert_value a = a

-- the deletion of the bytes before a position, and of the rest at offset q
abbrev pub split_text : PlainAct → ℕ → ℕ → List PlainAct
split_text (sd p d) at q = sd p (take at d) ∷ sd q (drop at d) ∷ []
split_text a at q = a ∷ []

-- the deletion at offset q without the bytes from i up to j
abbrev pub reduce_text : PlainAct → ℕ → ℕ → ℕ → List PlainAct
reduce_text (sd p d) q i j = delete_unless_empty q (take i d ++ drop j d)
reduce_text a q i j = a ∷ []

-- the acts after a rewrite at the other's container
abbrev pub rewrite_act : Rewrite → PlainAct → PlainAct → List PlainAct
rewrite_act (SplitDelete at q) a o = split_text a at q
rewrite_act (ReducedDelete q i j) a o = reduce_text a q i j
rewrite_act OverwrittenValue a o = option_map_or (overwrite_value a) (new_value o) a ∷ []
rewrite_act InsertedValue a o = insert_value a ∷ []
rewrite_act r a o = a ∷ []

-- the components after a rewrite
abbrev pub rewrite_component : Rewrite → PlainComponent → PlainComponent → List PlainComponent
rewrite_component (MovedStep n) c o = component_at (set c.path (length o.path) (index n)) c.act ∷ []
rewrite_component UpdatedValue c o =
    component_at c.path (map_removed (updated_value (component_at (drop (length c.path + 1) o.path) o.act)) c.act) ∷ []
rewrite_component r c o = map (component_at c.path) (rewrite_act r c.act o.act)

-- a position inside the text, at which it may be cut
abbrev pub IsInnerCut : PlainAct → ℕ → Type 0
IsInnerCut (sd p d) at = (0 < at) × (at < length d) × IsSplitPoint d at
IsInnerCut a at = ⊤

-- a range of the text, which may be removed
abbrev pub IsTextRange : PlainAct → ℕ → ℕ → Type 0
IsTextRange (sd p d) i j = (i ≤ j) × IsSplitPoint d i × IsSplitPoint d j
IsTextRange a i j = ⊤

-- the rewrite can be made at the other's container
abbrev pub IsActRewrite : Rewrite → PlainAct → Type 0
IsActRewrite (MovedStep n) a = ⊥
IsActRewrite UpdatedValue a = ⊥
IsActRewrite (SplitDelete at q) a = IsInnerCut a at
IsActRewrite (ReducedDelete q i j) a = IsTextRange a i j
IsActRewrite r a = ⊤

-- the rewrite can be made
abbrev pub IsRewrite : Rewrite → PlainComponent → PlainComponent → Type 0
IsRewrite (MovedStep n) c o = length o.path < length c.path
IsRewrite UpdatedValue c o = length c.path < length o.path
IsRewrite r c o = IsActRewrite r c.act

-- ---- kinds

-- the transform of an act at the other's container, by its kind
abbrev pub IsKindOfAct : TransformKind → PlainAct → PlainAct → ActTransform → Type 0
IsKindOfAct Refused a o m = m ≡ None
IsKindOfAct (PositionOnly p) a o m = m ≡ Some (reposition_act p a)
IsKindOfAct (Rewritten r) a o m = (m ≡ Some (rewrite_act r a o)) × IsActRewrite r a

-- the transform of a path's step, by the kind of its component
abbrev pub IsKindOfStep : TransformKind → PlainStep → StepTransform → Type 0
IsKindOfStep Refused s m = m ≡ None
IsKindOfStep (PositionOnly Dropped) s m = m ≡ Some None
IsKindOfStep (PositionOnly Unchanged) s m = m ≡ Some (Some s)
IsKindOfStep (Rewritten (MovedStep n)) s m = m ≡ Some (Some (index n))
IsKindOfStep k s m = ⊥

-- the components that replace c after o, by the kind
abbrev pub transform_by_kind : TransformKind → PlainComponent → PlainComponent → TransformResult
transform_by_kind Refused c o = None
transform_by_kind (PositionOnly p) c o = Some (reposition_component p c)
transform_by_kind (Rewritten r) c o = Some (rewrite_component r c o)

-- a rewrite can be made
abbrev pub IsFeasible : TransformKind → PlainComponent → PlainComponent → Type 0
IsFeasible (Rewritten r) c o = IsRewrite r c o
IsFeasible k c o = ⊤

-- ---- unchanged pairs

-- transforming leaves both components unchanged
abbrev pub CommuteUnchanged : Side → PlainComponent → PlainComponent → Type 0
CommuteUnchanged side c o = (transform side c o ≡ Some (c ∷ [])) × (transform (opposite side) o c ≡ Some (o ∷ []))

-- the components that replace one, in order
abbrev pub transformed_components : Transformed → List PlainComponent
transformed_components (One c) = c ∷ []
transformed_components (Many v) = v.items
