-- Convergence of concurrent components (TP1): both orders make one value.
use Rattle.std.specs.Prelude.{◌≡◌, ℕ, ◌+◌, ◌<◌, ◌≤◌, length, ℤ, ◌+ℤ◌, List, [], ◌∷◌, Option, Some, None, IsSome, ◌⊎◌, ⊤}
use Rattle.std.specs.Str.{IsUtf8}
use Rattle.sdb_value.specs.Value.{Value, whole, object, PlainStep, index, value_at, member_at}
use Rattle.sdb_rope.specs.Utf16.{units}
use Rattle.sdb_value.specs.WellFormed.{IsWellFormed}
use Rattle.sdb_value.specs.FromJson.{checked_whole}
use Rattle.sdb_component.specs.Plain.{PlainAct, na, si, sd, li, ld, lr, oi, od, or, PlainComponent}
use Rattle.sdb_apply.specs.Apply.{apply_one, apply}
use Rattle.sdb_transform.specs.declared.side.Side.{Side}
use Rattle.sdb_transform.specs.declared.side.Side.TheVariants.{Left, Right}
use Rattle.sdb_transform.specs.Transform.{transform, strip_prefix}

-- ---- components made for a value

-- for the value at the path: an Oi needs an absent key, an Od or Or a present one
abbrev pub HasExpectedKey : PlainAct → Value → Type 0
HasExpectedKey (oi k v) (object ms) = member_at k ms ≡ None
HasExpectedKey (od k x) (object ms) = IsSome (member_at k ms)
HasExpectedKey (or k x y) (object ms) = IsSome (member_at k ms)
HasExpectedKey _ u = ⊤

-- `WellMade`: the component applies to d, and its key is absent or present as its shape needs
pub record WellMade (c : PlainComponent) (d : Value) : Type 0 where
  pub position : Value
  pub result : Value
  pub found : value_at d c.path ≡ Some position
  pub accepted : apply_one c d ≡ Some result
  pub key : HasExpectedKey c.act position

-- a text is UTF-8, and a deleted text isn't empty
abbrev pub HasValidTexts : PlainAct → Type 0
HasValidTexts (si p s) = IsUtf8 s
HasValidTexts (sd p d) = IsUtf8 d × (0 < length d)
HasValidTexts _ = ⊤

-- ---- no index or offset exceeds the maximum

abbrev pub IsSafeInteger : ℕ → Type 0
IsSafeInteger n = n ≤ 9007199254740991

-- the other's insert at i goes before this side's insert at j
abbrev pub InsertsBefore : Side → ℕ → ℕ → Type 0
InsertsBefore Left i j = i < j
InsertsBefore Right i j = i ≤ j

-- at one container: an index or offset of c that o raises stays in range
abbrev pub ActStaysInRange : Side → PlainAct → PlainAct → Type 0
ActStaysInRange side (si p s) (si r s2) = InsertsBefore side r p → IsSafeInteger (p + units s2)
ActStaysInRange side (sd p d) (si r s2) = r < p + units d → IsSafeInteger (p + units s2)
ActStaysInRange side (li j v) (li i u) = InsertsBefore side i j → IsSafeInteger (j + 1)
ActStaysInRange side (ld j x) (li i u) = i ≤ j → IsSafeInteger (j + 1)
ActStaysInRange side (lr j w z) (li i u) = i ≤ j → IsSafeInteger (j + 1)
ActStaysInRange side c o = ⊤

-- inside o's container: a step that o raises stays an index in range
abbrev pub StepStaysInRange : PlainAct → PlainStep → Type 0
StepStaysInRange (li i v) (index j) = i ≤ j → IsSafeInteger (j + 1)
StepStaysInRange o s = ⊤

-- the case of c by the rest of its path after o's path, if it begins with o's path
abbrev pub SuffixStaysInRange : Side → PlainComponent → PlainComponent → Option (List PlainStep) → Type 0
SuffixStaysInRange side c o None = ⊤
SuffixStaysInRange side c o (Some []) = ActStaysInRange side c.act o.act
SuffixStaysInRange side c o (Some (s ∷ rest)) = StepStaysInRange o.act s

-- transforming c against o raises no index or offset above 9007199254740991
abbrev pub StaysInRange : Side → PlainComponent → PlainComponent → Type 0
StaysInRange side c o = SuffixStaysInRange side c o (strip_prefix o.path c.path)

-- ---- results of two concurrent components; s is the side of a, and t that of b

-- both components are made for the well-formed value d, and all positions stay in range
pub record ConcurrentPair (s t : Side) (d : Value) (a b : PlainComponent) : Type 0 where
  pub formed : IsWellFormed d
  pub a_texts : HasValidTexts a.act
  pub b_texts : HasValidTexts b.act
  pub a_made : WellMade a d
  pub b_made : WellMade b d
  pub a_fits : StaysInRange s a b
  pub b_fits : StaysInRange t b a

-- neither transform is E8, and both orders make one value
pub record Converges (s t : Side) (d : Value) (a b : PlainComponent) : Type 0 where
  pub left : List PlainComponent
  pub right : List PlainComponent
  pub result : Value
  pub on_left : transform s a b ≡ Some left
  pub on_right : transform t b a ≡ Some right
  pub by_left : apply (a ∷ right) d ≡ Some result
  pub by_right : apply (b ∷ left) d ≡ Some result

-- both add to one number, and the sum leaves the range
pub record SumOverflows (d : Value) (a b : PlainComponent) : Type 0 where
  pub number : ℤ
  pub x : ℤ
  pub y : ℤ
  pub same : a.path ≡ b.path
  pub first : a.act ≡ na x
  pub second : b.act ≡ na y
  pub found : value_at d a.path ≡ Some (whole number)
  pub leaves : checked_whole ((number +ℤ x) +ℤ y) ≡ None

-- neither transform is E8, and both orders make one value or are refused because a sum leaves the range
pub record ConvergesOrOverflows (d : Value) (a b : PlainComponent) : Type 0 where
  pub left : List PlainComponent
  pub right : List PlainComponent
  pub on_left : transform Left a b ≡ Some left
  pub on_right : transform Right b a ≡ Some right
  pub equal : apply (a ∷ right) d ≡ apply (b ∷ left) d
  pub ends : IsSome (apply (a ∷ right) d) ⊎ SumOverflows d a b
