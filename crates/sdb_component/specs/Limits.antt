-- The limits of a parsed operation: length, depth and positions. That texts are UTF-8 and numbers are in range follows
-- from their types.
use Rattle.std.specs.Prelude.{ℕ, ◌<◌, ◌≤◌, List, [], ◌∷◌, length, IfSome, ⊤}
use Rattle.serde_json.specs.Data.{Data}
use Rattle.sdb_value.specs.Value.{Value, PlainStep, key, index, depth}
use Rattle.sdb_component.specs.Plain.{PlainAct, na, si, sd, li, ld, lr, oi, od, or, PlainComponent}
use Rattle.sdb_component.specs.ToJson.{full_path}
use Rattle.sdb_component.specs.FromJson.{op_of}

-- a safe integer: at most 2^53 - 1, so that a double holds it exactly
abbrev pub IsSafeInteger : ℕ → Type 0
IsSafeInteger i = i ≤ 9007199254740991

abbrev pub StepInRange : PlainStep → Type 0
StepInRange (key k) = ⊤
StepInRange (index i) = IsSafeInteger i

abbrev pub StepsInRange : List PlainStep → Type 0
StepsInRange [] = ⊤
StepsInRange (s ∷ p) = StepInRange s × StepsInRange p

abbrev pub IsShallow : Value → Type 0
IsShallow v = depth v ≤ 50

abbrev pub ActInRange : PlainAct → Type 0
ActInRange (na x) = ⊤
ActInRange (si i s) = IsSafeInteger i × (0 < length s)
ActInRange (sd i s) = IsSafeInteger i × (0 < length s)
ActInRange (li i v) = IsSafeInteger i × IsShallow v
ActInRange (ld i x) = IsSafeInteger i × IsShallow x
ActInRange (lr i x y) = IsSafeInteger i × IsShallow x × IsShallow y
ActInRange (oi k v) = IsShallow v
ActInRange (od k x) = IsShallow x
ActInRange (or k x y) = IsShallow x × IsShallow y

pub record ComponentInRange (c : PlainComponent) : Type 0 where
  pub path : StepsInRange c.path
  pub short : length (full_path c.path c.act) ≤ 50
  pub act : ActInRange c.act

abbrev pub AllInRange : List PlainComponent → Type 0
AllInRange [] = ⊤
AllInRange (c ∷ cs) = ComponentInRange c × AllInRange cs

-- a parsed operation is within the limits
abbrev pub ReadStaysInRange : Type 0
ReadStaysInRange = (d : Data) → IfSome (op_of d) (λ cs. AllInRange cs × (length cs ≤ 256))
