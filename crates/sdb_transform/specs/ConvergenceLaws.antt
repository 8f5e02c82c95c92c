-- Laws of convergence.
use Rattle.std.specs.Prelude.{◌≡◌, ℕ, ℤ, List, [], ◌∷◌, ◌++◌, Option, Some, None}
use Rattle.sdb_value.specs.Value.{Value, whole, text, list, object, Items, Members, PlainStep, value_at}
use Rattle.sdb_value.specs.Disjoint.{AreDisjointPaths}
use Rattle.sdb_component.specs.Plain.{PlainAct, ld, lr, od, or, PlainComponent}
use Rattle.sdb_apply.specs.Apply.{apply_one}
use Rattle.sdb_transform.specs.declared.side.Side.{Side}
use Rattle.sdb_transform.specs.declared.side.Side.TheVariants.{Left, Right}
use Rattle.sdb_transform.specs.Transform.{transform, removed_step}
use Rattle.sdb_transform.specs.Convergence.{StaysInRange, ConcurrentPair, Converges, ConvergesOrOverflows}

-- convergence at disjoint paths
abbrev pub DisjointConverge : Type 0
DisjointConverge =
    (s t : Side) (d : Value) (a b : PlainComponent) → ConcurrentPair s t d a b → AreDisjointPaths a.path b.path → Converges s t d a b

-- convergence if b is inside the step w of a's container: cases 1 and 2 of `transform`
abbrev pub BelowConverge : Type 0
BelowConverge =
    (s t : Side) (d : Value) (a b : PlainComponent) (w : PlainStep) (rest : List PlainStep)
    → ConcurrentPair s t d a b → b.path ≡ a.path ++ w ∷ rest → Converges s t d a b

-- convergence of two components at one list, at one object, at one text
abbrev pub ListsConverge : Type 0
ListsConverge =
    (d : Value) (a b : PlainComponent) (items : Items) → ConcurrentPair Left Right d a b → a.path ≡ b.path
    → value_at d a.path ≡ Some (list items) → Converges Left Right d a b

abbrev pub ObjectsConverge : Type 0
ObjectsConverge =
    (d : Value) (a b : PlainComponent) (members : Members) → ConcurrentPair Left Right d a b → a.path ≡ b.path
    → value_at d a.path ≡ Some (object members) → Converges Left Right d a b

abbrev pub TextsConverge : Type 0
TextsConverge =
    (d : Value) (a b : PlainComponent) (bytes : List ℕ) → ConcurrentPair Left Right d a b → a.path ≡ b.path
    → value_at d a.path ≡ Some (text bytes) → Converges Left Right d a b

-- convergence of two additions to one number, whose sum may leave the range
abbrev pub NumbersConverge : Type 0
NumbersConverge =
    (d : Value) (a b : PlainComponent) (number : ℤ) → ConcurrentPair Left Right d a b → a.path ≡ b.path
    → value_at d a.path ≡ Some (whole number) → ConvergesOrOverflows d a b

-- convergence for every value and component of the definitions
abbrev pub AllConverge : Type 0
AllConverge = (d : Value) (a b : PlainComponent) → ConcurrentPair Left Right d a b → ConvergesOrOverflows d a b

-- a pair whose transforms exist stays in range
abbrev pub InRangeWhereWellMade : Type 0
InRangeWhereWellMade =
    (side : Side) (c o : PlainComponent) (cs : List PlainComponent) → transform side c o ≡ Some cs → StaysInRange side c o

-- the value that an act names as removed
abbrev pub removed_value : PlainAct → Option Value
removed_value (ld i x) = Some x
removed_value (lr i x y) = Some x
removed_value (od k x) = Some x
removed_value (or k x y) = Some x
removed_value _ = None

-- c removes the value at its step w and o changes something in it: after o, c removes the changed value
abbrev pub RemovedValueIsCurrent : Type 0
RemovedValueIsCurrent =
    (side : Side) (d e x : Value) (c o : PlainComponent) (w : PlainStep) (rest : List PlainStep)
    → removed_step c.act ≡ Some w → removed_value c.act ≡ Some x → value_at d (c.path ++ w ∷ []) ≡ Some x
    → o.path ≡ c.path ++ w ∷ rest → apply_one o d ≡ Some e
    → (after : PlainComponent) × (transform side c o ≡ Some (after ∷ []))
    × (removed_value after.act ≡ value_at e (c.path ++ w ∷ []))
