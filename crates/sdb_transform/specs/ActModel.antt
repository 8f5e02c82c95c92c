-- The views of the transforms' results.
use Rattle.std.specs.Prelude.{◌≡◌, ℕ, min, true, Option, None, ⊤}
use Rattle.std.specs.Option.{is_some}
use Rattle.sdb_transform.specs.declared.side.Fault.{Fault}
use Rattle.sdb_transform.specs.declared.side.Fault.TheVariants.{NotTransformed, OutOfMemory}
use Rattle.sdb_transform.specs.declared.side.Side.{Side}
use Rattle.sdb_transform.specs.declared.side.Side.TheVariants.{Left, Right}

abbrev pub opposite : Side → Side
opposite Left = Right
opposite Right = Left

-- no transform exists, or an allocation failed
abbrev pub IsTransformFault : {A : Type 0} → Fault → Option A → Type 0
IsTransformFault NotTransformed o = o ≡ None
IsTransformFault OutOfMemory o = ⊤

-- no transform exists; or one exists, and an allocation failed
abbrev pub IsPairFault : {A : Type 0} → Fault → Option A → Type 0
IsPairFault NotTransformed o = o ≡ None
IsPairFault OutOfMemory o = is_some o ≡ true

-- a size, saturated at 64 bits
abbrev pub saturated_size : ℕ → ℕ
saturated_size n = min 18446744073709551615 n
