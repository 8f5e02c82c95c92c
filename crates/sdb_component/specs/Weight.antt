-- The weight of an operation: a text deletion weighs its UTF-16 code units, any other component 1.
use Rattle.std.specs.Prelude.{ℕ, ◌+◌, max, List, [], ◌∷◌}
use Rattle.sdb_rope.specs.Utf16.{units}
use Rattle.sdb_component.specs.Plain.{PlainAct, sd, PlainComponent}

-- a deleted text isn't empty, so it has at least one code unit
abbrev pub act_weight : PlainAct → ℕ
act_weight (sd p d) = max 1 (units d)
act_weight _ = 1

abbrev pub component_weight : PlainComponent → ℕ
component_weight c = act_weight c.act

abbrev pub weight : List PlainComponent → ℕ
weight [] = 0
weight (c ∷ cs) = component_weight c + weight cs
