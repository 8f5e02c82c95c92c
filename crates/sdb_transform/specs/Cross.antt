-- Two operations transformed against each other, component by component: `Crossing`, for any table of transforms and
-- for this project's table.
--
-- - `X([], R) = ([], R)` and `X(L, []) = (L, [])`
-- - `X(l::L, r::R) = (l2 ++ L2, r2 ++ Rb)`, where `l1 = T(l, r, left)`, `r1 = T(r, l, right)`, `(l2, Ra) = X(l1, R)`,
--   `(L1, r2) = X(L, r1)` and `(L2, Rb) = X(L1, Ra)`
--
-- Each use of the rule for a pair counts one pair. If one transform is refused, the crossing is `None`.
use Rattle.std.specs.Prelude.{◌≡◌, ℕ, zero, suc, ◌+◌, ◌*◌, ◌<◌, ◌≤◌, List, [], ◌∷◌, ◌++◌, Option, Some, None, option_map}
use Rattle.sdb_component.specs.Plain.{PlainComponent}
use Rattle.sdb_component.specs.Weight.{component_weight}
use Rattle.sdb_transform.specs.Transform.{transform}
use Rattle.sdb_transform.specs.declared.side.Side.{Side}
use Rattle.sdb_transform.specs.declared.side.Side.TheVariants.{Left, Right}

-- the first change transformed against the second, or `None` if that is refused
abbrev pub TransformTable : Type 0 → Type 0
TransformTable C = C → C → Option (List C)

-- both results, and the number of pairs
pub record Crossing (C : Type 0) : Type 0 where
  pub left : List C
  pub right : List C
  pub pairs : ℕ

-- the weight of a list
abbrev pub sum_weight : {C : Type 0} → (C → ℕ) → List C → ℕ
sum_weight component_weight [] = 0
sum_weight component_weight (c ∷ cs) = component_weight c + sum_weight component_weight cs

-- the next step, unless this one is refused
abbrev pub and_then : {A B : Type 0} → Option A → (A → Option B) → Option B
and_then None f = None
and_then (Some a) f = f a

-- u is X(l1, R), v is X(L, r1), and w is the crossing of their rests
abbrev pub join_crossings : {C : Type 0} → Crossing C → Crossing C → Crossing C → Crossing C
join_crossings u v w = record { left = u.left ++ w.left; right = v.right ++ w.right; pairs = suc (u.pairs + v.pairs + w.pairs) }

-- the crossing with at most n nested pairs
unfoldable pub cross_in : {C : Type 0} → TransformTable C → TransformTable C → ℕ → List C → List C → Option (Crossing C)
cross_in tl tr n [] R = Some (record { left = []; right = R; pairs = 0 })
cross_in tl tr n (l ∷ L) [] = Some (record { left = l ∷ L; right = []; pairs = 0 })
cross_in tl tr zero (l ∷ L) (r ∷ R) = None
cross_in tl tr (suc n) (l ∷ L) (r ∷ R) =
    and_then (tl l r) (λ l1.
    and_then (tr r l) (λ r1.
    and_then (cross_in tl tr n l1 R) (λ u.
    and_then (cross_in tl tr n L r1) (λ v.
    and_then (cross_in tl tr n v.left u.right) (λ w.
    Some (join_crossings u v w))))))

-- the crossing; no step increases a weight, so the sum of both weights bounds its depth
unfoldable pub cross : {C : Type 0} → TransformTable C → TransformTable C → (C → ℕ) → List C → List C → Option (Crossing C)
cross tl tr component_weight L R = cross_in tl tr (sum_weight component_weight L + sum_weight component_weight R) L R

-- x followed by y: the left side crosses more of the right one
abbrev pub append_right : {C : Type 0} → Crossing C → Crossing C → Crossing C
append_right x y = record { left = y.left; right = x.right ++ y.right; pairs = x.pairs + y.pairs }

-- ---- with the table of `Transform`

abbrev pub CrossResult : Type 0
CrossResult = Option (Crossing PlainComponent)

-- X(L, R)
abbrev pub cross_ops : List PlainComponent → List PlainComponent → CrossResult
cross_ops L R = cross (transform Left) (transform Right) component_weight L R

-- the operation transformed against a concurrent one
abbrev pub transform_op : Side → List PlainComponent → List PlainComponent → Option (List PlainComponent)
transform_op Left op other = option_map (λ x. x.left) (cross_ops op other)
transform_op Right op other = option_map (λ x. x.right) (cross_ops other op)
