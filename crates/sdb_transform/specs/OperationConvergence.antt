-- Convergence of concurrent operations (TP1): both orders make one value.
use Rattle.std.specs.Prelude.{◌≡◌, ℕ, ◌+◌, max, ℤ, ◌+ℤ◌, List, [], ◌∷◌, ◌++◌, Some, None, ◌⊎◌, ⊤}
use Rattle.sdb_value.specs.Value.{Value, whole, PlainStep, key, index, value_at}
use Rattle.sdb_value.specs.WellFormed.{IsWellFormed}
use Rattle.sdb_value.specs.FromJson.{checked_whole}
use Rattle.sdb_rope.specs.Utf16.{units}
use Rattle.sdb_component.specs.Plain.{PlainAct, na, si, sd, li, ld, lr, oi, or, PlainComponent}
use Rattle.sdb_apply.specs.Apply.{apply}
use Rattle.sdb_transform.specs.Convergence.{WellMade, HasValidTexts, IsSafeInteger}
use Rattle.sdb_transform.specs.Cross.{Crossing, cross_ops}

-- ---- operations made for a value

-- the inserted value is well formed
abbrev pub InsertsWellFormedValue : PlainAct → Type 0
InsertsWellFormedValue (li i v) = IsWellFormed v
InsertsWellFormedValue (lr i x y) = IsWellFormed y
InsertsWellFormedValue (oi k v) = IsWellFormed v
InsertsWellFormedValue (or k x y) = IsWellFormed y
InsertsWellFormedValue _ = ⊤

-- valid texts and a well-formed inserted value; each component of the server has them
abbrev pub HasValidParts : PlainAct → Type 0
HasValidParts a = HasValidTexts a × InsertsWellFormedValue a

abbrev pub HaveValidParts : List PlainComponent → Type 0
HaveValidParts [] = ⊤
HaveValidParts (c ∷ cs) = HasValidParts c.act × HaveValidParts cs

-- each component is well made for the result of those before it
abbrev pub AreWellMade : List PlainComponent → Value → Type 0
AreWellMade [] d = ⊤
AreWellMade (c ∷ cs) d = (w : WellMade c d) × AreWellMade cs w.result

-- the operation is well made for d, and its parts are valid
abbrev pub AreMadeFor : List PlainComponent → Value → Type 0
AreMadeFor cs d = AreWellMade cs d × HaveValidParts cs

-- ---- sums that leave the range

-- the component adds to a number of d, and the sum leaves the range
pub record SumLeavesRange (c : PlainComponent) (d : Value) : Type 0 where
  pub number : ℤ
  pub x : ℤ
  pub adds : c.act ≡ na x
  pub found : value_at d c.path ≡ Some (whole number)
  pub leaves : checked_whole (number +ℤ x) ≡ None

-- of the components applied to d in sequence, one adds to a number, and the sum leaves the range
pub record SomeSumLeavesRange (cs : List PlainComponent) (d : Value) : Type 0 where
  pub prefix : List PlainComponent
  pub component : PlainComponent
  pub rest : List PlainComponent
  pub before : Value
  pub parts : cs ≡ prefix ++ component ∷ rest
  pub applied : apply prefix d ≡ Some before
  pub sum : SumLeavesRange component before

-- ---- the results of two concurrent operations

-- each transformed operation is made for the other's result, and both orders make one value
pub record TransformsConverge (after_left after_right : Value) (x : Crossing PlainComponent) : Type 0 where
  pub left_made : AreMadeFor x.left after_right
  pub right_made : AreMadeFor x.right after_left
  pub result : Value
  pub by_left : apply x.right after_left ≡ Some result
  pub by_right : apply x.left after_right ≡ Some result

-- both orders make one value, or a sum leaves the range in one of them
pub record OperationsConverge (d : Value) (L R : List PlainComponent) (x : Crossing PlainComponent) : Type 0 where
  pub after_left : Value
  pub after_right : Value
  pub left_applied : apply L d ≡ Some after_left
  pub right_applied : apply R d ≡ Some after_right
  pub ends :
      TransformsConverge after_left after_right x
      ⊎ (SomeSumLeavesRange x.right after_left ⊎ SomeSumLeavesRange x.left after_right)

-- convergence, if the operations can be transformed
abbrev pub ConvergeIfCrossed : Value → List PlainComponent → List PlainComponent → Type 0
ConvergeIfCrossed d L R = (x : Crossing PlainComponent) → cross_ops L R ≡ Some x → OperationsConverge d L R x

-- convergence of operations of any length
abbrev pub AllOperationsConverge : Type 0
AllOperationsConverge =
    (d : Value) (L R : List PlainComponent) → IsWellFormed d → AreMadeFor L d → AreMadeFor R d → ConvergeIfCrossed d L R

-- if both orders apply, they make one value
abbrev pub OrdersAgree : Type 0
OrdersAgree =
    (d e f : Value) (L R : List PlainComponent) (x : Crossing PlainComponent) → IsWellFormed d → AreMadeFor L d → AreMadeFor R d
    → cross_ops L R ≡ Some x → apply (L ++ x.right) d ≡ Some e → apply (R ++ x.left) d ≡ Some f → e ≡ f

-- ---- crossings that exist

-- the index of a step, and the offset or index of an act; 0 for a key, and without one
abbrev pub step_position : PlainStep → ℕ
step_position (index i) = i
step_position (key k) = 0

abbrev pub act_position : PlainAct → ℕ
act_position (si p s) = p
act_position (sd p d) = p
act_position (li i v) = i
act_position (ld i x) = i
act_position (lr i x y) = i
act_position _ = 0

abbrev pub highest_index : List PlainStep → ℕ
highest_index [] = 0
highest_index (s ∷ p) = max (step_position s) (highest_index p)

-- the highest offset or index of the components and of their paths
abbrev pub highest_position : List PlainComponent → ℕ
highest_position [] = 0
highest_position (c ∷ cs) = max (max (highest_index c.path) (act_position c.act)) (highest_position cs)

-- by how much the act may raise a position: the code units of its text, or one item, since an lr may become an li
abbrev pub inserted_size : PlainAct → ℕ
inserted_size (si p s) = units s
inserted_size (li i v) = 1
inserted_size (lr i x y) = 1
inserted_size _ = 0

abbrev pub total_inserted_size : List PlainComponent → ℕ
total_inserted_size [] = 0
total_inserted_size (c ∷ cs) = inserted_size c.act + total_inserted_size cs

-- no position of the components exceeds the maximum, even if all inserts of the others raise it
abbrev pub AllStayInRange : List PlainComponent → List PlainComponent → Type 0
AllStayInRange cs others = IsSafeInteger (highest_position cs + total_inserted_size others)

-- two operations made for one value can be transformed, if no position can leave the range
abbrev pub CrossingExists : Type 0
CrossingExists =
    (d : Value) (L R : List PlainComponent) → IsWellFormed d → AreMadeFor L d → AreMadeFor R d
    → AllStayInRange L R → AllStayInRange R L → (x : Crossing PlainComponent) × (cross_ops L R ≡ Some x)
