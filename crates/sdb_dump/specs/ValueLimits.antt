-- The limits of values and operations. `r` is the maximum depth of a removed value: 50 in a submission, 100 in the log,
-- since entries before it can insert deeper values.
use Rattle.std.specs.Prelude.{ℕ, ◌<◌, ◌≤◌, List, [], ◌∷◌, length, ⊤}
use Rattle.std.specs.Str.{IsUtf8}
use Rattle.sdb_value.specs.Value.{Value, PlainStep, key, index, depth}
use Rattle.sdb_value.specs.WellFormed.{IsInRange, IsWellFormed}
use Rattle.sdb_component.specs.Plain.{PlainAct, na, si, sd, li, ld, lr, oi, od, or, PlainComponent}
use Rattle.sdb_component.specs.ToJson.{full_path}

abbrev pub IsSafeInteger : ℕ → Type 0
IsSafeInteger n = n ≤ 9007199254740991

abbrev pub ValueInLimits : ℕ → Value → Type 0
ValueInLimits n v = IsWellFormed v × (depth v ≤ n)

-- a text that isn't empty
abbrev pub TextInLimits : List ℕ → Type 0
TextInLimits s = IsUtf8 s × (0 < length s)

abbrev pub StepInLimits : PlainStep → Type 0
StepInLimits (key k) = IsUtf8 k
StepInLimits (index i) = IsSafeInteger i

abbrev pub StepsInLimits : List PlainStep → Type 0
StepsInLimits [] = ⊤
StepsInLimits (s ∷ p) = StepInLimits s × StepsInLimits p

abbrev pub ActInLimits : ℕ → PlainAct → Type 0
ActInLimits r (na x) = IsInRange x
ActInLimits r (si i s) = IsSafeInteger i × TextInLimits s
ActInLimits r (sd i s) = IsSafeInteger i × TextInLimits s
ActInLimits r (li i v) = IsSafeInteger i × ValueInLimits 50 v
ActInLimits r (ld i x) = IsSafeInteger i × ValueInLimits r x
ActInLimits r (lr i x y) = IsSafeInteger i × ValueInLimits r x × ValueInLimits 50 y
ActInLimits r (oi k v) = IsUtf8 k × ValueInLimits 50 v
ActInLimits r (od k x) = IsUtf8 k × ValueInLimits r x
ActInLimits r (or k x y) = IsUtf8 k × ValueInLimits r x × ValueInLimits 50 y

pub record ComponentInLimits (r : ℕ) (c : PlainComponent) : Type 0 where
  pub path : StepsInLimits c.path
  pub short : length (full_path c.path c.act) ≤ 50
  pub act : ActInLimits r c.act

abbrev pub ComponentsInLimits : ℕ → List PlainComponent → Type 0
ComponentsInLimits r [] = ⊤
ComponentsInLimits r (c ∷ cs) = ComponentInLimits r c × ComponentsInLimits r cs
