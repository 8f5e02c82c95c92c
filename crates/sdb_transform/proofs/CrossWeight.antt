-- Crossings joined on the left side, and the weight of what a crossing returns.
use Rattle.std.specs.Prelude.{◌≡◌, ℕ, List, ◌++◌, ◌+◌, ◌*◌, ◌≤◌, ◌<◌, Some}
use Rattle.sdb_transform.specs.Cross.{TransformTable, Crossing, sum_weight}

-- x followed by y: more of the left side crosses the right one
abbrev pub append_left : {C : Type 0} → Crossing C → Crossing C → Crossing C
append_left x y = record { left = x.left ++ y.left; right = y.right; pairs = x.pairs + y.pairs }

-- tables that increase no weight, for changes of positive weight
pub record IsWeighted {C : Type 0} (tl tr : TransformTable C) (weigh : C → ℕ) : Type 0 where
  pub positive : (c : C) → 0 < weigh c
  pub on_left : (c o : C) (cs : List C) → tl c o ≡ Some cs → sum_weight weigh cs ≤ weigh c
  pub on_right : (c o : C) (cs : List C) → tr c o ≡ Some cs → sum_weight weigh cs ≤ weigh c

-- no side gains weight, and the pairs are at most the product of the weights
pub record IsWithinWeight {C : Type 0} (weigh : C → ℕ) (L R : List C) (x : Crossing C) : Type 0 where
  pub on_left : sum_weight weigh x.left ≤ sum_weight weigh L
  pub on_right : sum_weight weigh x.right ≤ sum_weight weigh R
  pub pairs_within_product : x.pairs ≤ sum_weight weigh L * sum_weight weigh R
