-- A content transformed against one stored content (`over`), and against each entry stored since its base version
-- (`rebase`).
use Rattle.std.specs.Prelude.{List, [], ◌∷◌, Bool, true, false, Result, Ok, Err}
use Rattle.std.specs.Option.{option_map_or}
use Rattle.sdb_component.specs.Plain.{PlainComponent}
use Rattle.sdb_transform.specs.Cross.{transform_op}
use Rattle.sdb_transform.specs.declared.side.Side.TheVariants.{Left}
use Rattle.sdb_oplog.specs.Plain.{PlainContent, create, delete, edit, PlainEntry}
use Rattle.sdb_oplog.specs.Refusal.{result_and_then}
use Rattle.sdb_oplog.specs.declared.codes.Code.{Code}
use Rattle.sdb_oplog.specs.declared.codes.Code.TheVariants.{E5, E6, E8}

-- an edit transformed against a concurrent one, as the left operation
abbrev pub edit_over : List PlainComponent → List PlainComponent → Result PlainContent Code
edit_over op other = option_map_or (λ c. Ok (edit c)) (transform_op Left op other) (Err E8)

abbrev pub over : PlainContent → PlainContent → Result PlainContent Code
over m (create v) = Err E6
over (create v) delete = Err E5
over delete delete = Ok delete
over (edit op) delete = Err E5
over (create v) (edit other) = Err E6
over delete (edit other) = Ok delete
over (edit op) (edit other) = edit_over op other

-- a content transformed against each entry in order, up to the first refusal
abbrev pub rebase : PlainContent → List PlainEntry → Result PlainContent Code
rebase m [] = Ok m
rebase m (e ∷ es) = result_and_then (λ k. rebase k es) (over m e.content)

-- ---- allocations

-- only an edit against an edit allocates
abbrev pub over_allocates : PlainContent → PlainContent → Bool
over_allocates (create v) stored = false
over_allocates delete stored = false
over_allocates (edit op) (create v) = false
over_allocates (edit op) delete = false
over_allocates (edit op) (edit other) = true

-- whether a rebase allocates, which its first entry decides: against it an edit is transformed or refused, and any
-- other content is refused or stays a delete
abbrev pub rebase_allocates : PlainContent → List PlainEntry → Bool
rebase_allocates m [] = false
rebase_allocates m (e ∷ es) = over_allocates m e.content
