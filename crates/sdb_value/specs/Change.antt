-- A change at one path of a value: the value there is related by R to its new one, and all other parts are unchanged.
use Rattle.std.specs.Prelude.{◌≡◌, List, Some, None}
use Rattle.sdb_value.specs.Value.{Value, PlainStep, value_at, with_value_at}

-- e is d with the value u at p replaced by a value v that R relates to u
pub record ReplacedAt (R : Value → Value → Type 0) (d : Value) (p : List PlainStep) (e : Value) : Type 0 where
  pub before : Value
  pub after : Value
  pub found : value_at d p ≡ Some before
  pub related : R before after
  pub placed : e ≡ with_value_at d p after

-- there is no value at p, and e is d
pub record AbsentAt (d : Value) (p : List PlainStep) (e : Value) : Type 0 where
  pub absent : value_at d p ≡ None
  pub same : e ≡ d
