-- Laws of changes.
use Rattle.std.specs.Prelude.{◌≡◌, List, ◌++◌, map, Some, option_map}
use Rattle.sdb_value.specs.Value.{Value, PlainStep, value_at, with_value_at}
use Rattle.sdb_value.specs.Disjoint.{AreDisjointPaths}
use Rattle.sdb_component.specs.Plain.{PlainComponent}
use Rattle.sdb_apply.specs.Apply.{apply_one, apply}

-- a component has at most one result
abbrev pub UniqueResult : Type 0
UniqueResult = (c : PlainComponent) (d e f : Value) → apply_one c d ≡ Some e → apply_one c d ≡ Some f → e ≡ f

-- two components at disjoint paths make one value in either order
abbrev pub DisjointChangesCommute : Type 0
DisjointChangesCommute =
    (a b : PlainComponent) (d e f : Value) → AreDisjointPaths a.path b.path → apply_one a d ≡ Some e → apply_one b d ≡ Some f
    → (g : Value) × (apply_one b e ≡ Some g) × (apply_one a f ≡ Some g)

-- a component of the value at p, as a component of the whole
abbrev pub with_path_prefix : List PlainStep → PlainComponent → PlainComponent
with_path_prefix p c = record { path = p ++ c.path; act = c.act }

-- components inside a path have the effect that they have on the value there
abbrev pub ChangesBelowPlace : Type 0
ChangesBelowPlace =
    (p : List PlainStep) (cs : List PlainComponent) (d u : Value) → value_at d p ≡ Some u
    → apply (map (with_path_prefix p) cs) d ≡ option_map (with_value_at d p) (apply cs u)
