-- A table of projections.
use Rattle.std.specs.Prelude.{◌≡◌, ℕ, List, [], ◌∷◌, Bool, true, false, ◌||◌, cond, if◌then◌else◌, bytes_eq, Option, Some, None, ⊤}
use Rattle.std.specs.List.{list_any}
use Rattle.std.specs.Option.{is_some}
use Rattle.sdb_projection.specs.declared.table.TableFault.{TableFault}
use Rattle.sdb_projection.specs.declared.table.TableFault.TheVariants.{DuplicateName, NameOfBase, BaseIsProjection, NoField, OutOfMemory}

-- a collection name, its base collection and the fields
pub record PlainProjection : Type 0 where
  pub name : List ℕ
  pub base : List ℕ
  pub fields : List (List ℕ)

-- the projection of this name
abbrev pub projection_of : List ℕ → List PlainProjection → Option PlainProjection
projection_of n [] = None
projection_of n (p ∷ table) = cond (bytes_eq p.name n) (Some p) (projection_of n table)

-- whether the collection is the base of a projection
abbrev pub is_base : List ℕ → List PlainProjection → Bool
is_base n = list_any (λ p. bytes_eq p.base n)

abbrev pub is_empty : List (List ℕ) → Bool
is_empty [] = true
is_empty (f ∷ fields) = false

-- the first fault that applies to the projection
abbrev pub table_fault : PlainProjection → List PlainProjection → Option TableFault
table_fault p table =
    if is_some (projection_of p.name table) then Some DuplicateName
    else (if bytes_eq p.name p.base then Some NameOfBase
    else (if is_some (projection_of p.base table) || is_base p.name table then Some BaseIsProjection
    else (if is_empty p.fields then Some NoField
    else None)))

-- the fault is the first that applies, or an allocation failed
abbrev pub IsTableFault : Option TableFault → TableFault → Type 0
IsTableFault r OutOfMemory = ⊤
IsTableFault r f = r ≡ Some f
