-- Laws of the table of transforms and of crossings.
use Rattle.std.specs.Prelude.{◌≡◌, ◌*◌, ◌≤◌, List, [], ◌∷◌, ◌++◌, Some}
use Rattle.sdb_component.specs.Plain.{PlainComponent}
use Rattle.sdb_component.specs.Weight.{component_weight, weight}
use Rattle.sdb_transform.specs.declared.side.Side.{Side}
use Rattle.sdb_transform.specs.declared.side.Side.TheVariants.{Left, Right}
use Rattle.sdb_transform.specs.Cross.{Crossing, and_then, join_crossings, append_right, cross_ops}
use Rattle.sdb_transform.specs.Transform.{transform}

abbrev Components : Type 0
Components = List PlainComponent

-- a transform doesn't increase a component's weight
abbrev pub WeightNotIncreased : Type 0
WeightNotIncreased = (side : Side) (c o : PlainComponent) (cs : Components) → transform side c o ≡ Some cs → weight cs ≤ component_weight c

-- X([], R) = ([], R)
abbrev pub LeftEmpty : Type 0
LeftEmpty = (R : Components) → cross_ops [] R ≡ Some (record { left = []; right = R; pairs = 0 })

-- X(L, []) = (L, [])
abbrev pub RightEmpty : Type 0
RightEmpty = (L : Components) → cross_ops L [] ≡ Some (record { left = L; right = []; pairs = 0 })

-- X(l::L, r::R), without a bound on the depth
abbrev pub PairRule : Type 0
PairRule =
    (l r : PlainComponent) (L R : Components) → cross_ops (l ∷ L) (r ∷ R) ≡
    and_then (transform Left l r) (λ l1.
    and_then (transform Right r l) (λ r1.
    and_then (cross_ops l1 R) (λ u.
    and_then (cross_ops L r1) (λ v.
    and_then (cross_ops v.left u.right) (λ w.
    Some (join_crossings u v w))))))

-- X(L, Ra ++ Rb): L crosses Ra, and then Rb
abbrev pub RightAppended : Type 0
RightAppended =
    (L Ra Rb : Components) → cross_ops L (Ra ++ Rb) ≡
    and_then (cross_ops L Ra) (λ x.
    and_then (cross_ops x.left Rb) (λ y.
    Some (append_right x y)))

-- the pairs are at most the product of both weights, and no side gains weight
abbrev pub PairsWithinProduct : Type 0
PairsWithinProduct = (L R : Components) (x : Crossing PlainComponent) → cross_ops L R ≡ Some x → x.pairs ≤ weight L * weight R

abbrev pub NoSideHeavier : Type 0
NoSideHeavier =
    (L R : Components) (x : Crossing PlainComponent) → cross_ops L R ≡ Some x
    → (weight x.left ≤ weight L) × (weight x.right ≤ weight R)
