-- Components that all work inside one path.
use Rattle.std.specs.Prelude.{◌≡◌, ℕ, List, [], ◌∷◌, map, length, take, drop}
use Rattle.sdb_value.specs.Value.{PlainStep}
use Rattle.sdb_component.specs.Plain.{PlainComponent}

-- the component's path begins with this one
abbrev pub IsBelowPath : List PlainStep → PlainComponent → Type 0
IsBelowPath p c = p ≡ take (length p) c.path

-- each component's path begins with this one
abbrev pub AllBelowPath : List PlainStep → List PlainComponent → Type 0
AllBelowPath p [] = Unit {0}
AllBelowPath p (c ∷ cs) = IsBelowPath p c × AllBelowPath p cs

-- the components relative to the value at the first n steps of their paths
abbrev pub strip_steps : ℕ → List PlainComponent → List PlainComponent
strip_steps n cs = map (λ c. record { path = drop n c.path; act = c.act }) cs
