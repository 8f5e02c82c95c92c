-- Disjoint paths.
use Rattle.std.specs.Prelude.{◌≡◌, ℕ, List, ◌++◌, Some, true, false}
use Rattle.sdb_value.specs.Value.{Value, PlainStep, texts_equal, steps_equal, child, with_child, value_at, with_value_at}

-- neither path is a prefix of the other
pub record AreDisjointPaths (p q : List PlainStep) : Type 0 where
  pub not_prefix : (rest : List PlainStep) → p ++ rest ≡ q → ⊥
  pub not_extension : (rest : List PlainStep) → q ++ rest ≡ p → ⊥

-- a write at one path leaves the value at the other unchanged, and both orders make one value
abbrev pub DisjointPathsCommute : Type 0
DisjointPathsCommute =
    (p q : List PlainStep) (d u v x y : Value) → AreDisjointPaths p q → value_at d p ≡ Some x → value_at d q ≡ Some y
    → (value_at (with_value_at d p u) q ≡ Some y) × (with_value_at (with_value_at d p u) q v ≡ with_value_at (with_value_at d q v) p u)

-- the same for one step
abbrev pub DisjointStepsCommute : Type 0
DisjointStepsCommute =
    (s t : PlainStep) (d u v : Value) → steps_equal s t ≡ false
    → (child t (with_child s d u) ≡ child t d) × (with_child t (with_child s d u) v ≡ with_child s (with_child t d v) u)

-- texts and steps are equal if and only if their comparison succeeds
abbrev pub TextEqualityIsExact : Type 0
TextEqualityIsExact = (k l : List ℕ) → (texts_equal k l ≡ true → k ≡ l) × (k ≡ l → texts_equal k l ≡ true)

abbrev pub StepEqualityIsExact : Type 0
StepEqualityIsExact = (s t : PlainStep) → (steps_equal s t ≡ true → s ≡ t) × (s ≡ t → steps_equal s t ≡ true)
