-- The law of projections: projection commutes with applying.
use Rattle.std.specs.Prelude.{◌≡◌, ℕ, List, Some}
use Rattle.sdb_value.specs.Value.{Value}
use Rattle.sdb_component.specs.Plain.{PlainComponent}
use Rattle.sdb_apply.specs.Apply.{apply}
use Rattle.sdb_projection.specs.ProjectionModel.{proj, proj_op}

-- the projected operation applied to the projected value is the projection of the result
abbrev pub ProjectionCommutes : Value → Type 0
ProjectionCommutes d =
    (fields : List (List ℕ)) (op : List PlainComponent) (e : Value) → apply op d ≡ Some e
    → apply (proj_op fields op) (proj fields d) ≡ Some (proj fields e)
