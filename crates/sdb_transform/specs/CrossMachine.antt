-- The remaining work of a crossing, as a loop with a stack has it.
use Rattle.std.specs.Prelude.{◌≡◌, ℕ, suc, ◌+◌, ◌-◌, ◌*◌, ◌^◌, min, List, [], ◌∷◌, ◌++◌, Option, Some}
use Rattle.sdb_transform.specs.Cross.{TransformTable, Crossing, sum_weight, and_then, cross, append_right}

-- left changes to push, or a right change to transform against the left ones
pub data WorkItem (C : Type 0) : Type 0 where
  LeftChanges : (ls : List C) → WorkItem C
  RightChange : (r : C) → WorkItem C

abbrev pub right_frames : {C : Type 0} → List C → List (WorkItem C)
right_frames [] = []
right_frames (r ∷ rs) = RightChange r ∷ right_frames rs

-- the result of the left changes and of the work
abbrev pub run_work : {C : Type 0} → TransformTable C → TransformTable C → (C → ℕ) → List C → List (WorkItem C) → Option (Crossing C)
run_work tl tr weigh L [] = Some (record { left = L; right = []; pairs = 0 })
run_work tl tr weigh L (LeftChanges ls ∷ ts) = run_work tl tr weigh (ls ++ L) ts
run_work tl tr weigh L (RightChange r ∷ ts) =
    and_then (cross tl tr weigh L (r ∷ [])) (λ x. and_then (run_work tl tr weigh x.left ts) (λ y. Some (append_right x y)))

-- a crossing with the finished part added to it
abbrev pub add_done : {C : Type 0} → List C → ℕ → Crossing C → Crossing C
add_done done k y = record { left = y.left; right = done ++ y.right; pairs = k + y.pairs }

-- an upper bound on the steps, for left changes of weight n
abbrev pub step_bound : {C : Type 0} → (C → ℕ) → ℕ → List (WorkItem C) → ℕ
step_bound weigh n [] = 0
step_bound weigh n (LeftChanges ls ∷ ts) = suc (step_bound weigh (sum_weight weigh ls + n) ts)
step_bound weigh n (RightChange r ∷ ts) = weigh r * (1 + 2 * n) + step_bound weigh n ts

-- the goal is the part that is done, followed by the result of the rest
pub record StateInvariant {C : Type 0} (tl tr : TransformTable C) (weigh : C → ℕ) (goal : Option (Crossing C)) (L : List C)
    (ts : List (WorkItem C)) (done : List C) (pairs : ℕ) : Type 0 where
  pub pair_count : ℕ
  pub pairs_saturated : pairs ≡ min pair_count (2 ^ 128 - 1)
  pub rest : goal ≡ and_then (run_work tl tr weigh L ts) (λ y. Some (add_done done pair_count y))
