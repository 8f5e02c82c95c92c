-- The table of lines, and what a database with it holds.
use Rattle.std.specs.Prelude.{◌≡◌, ◌⊎◌, Bool, ℕ, ◌+◌, suc, true, false, List, [], ◌∷◌, slice_get, Some, codes, pos, ◌++◌, IsTrue}
use Rattle.sqlite_value.specs.declared.value.Value.TheVariants.{Null, Int, Blob as Bytes}
use Rattle.sqlite_value.specs.declared.keys.Collation.TheVariants.{Binary}
use Rattle.sqlite_value.specs.Order.{Row}
use Rattle.sqlite_trees.specs.Tree.{Trees}
use Rattle.sqlite_schema.specs.declared.schema.Table.{Table}
use Rattle.sqlite_schema.specs.declared.schema.Schema.{Schema}
use Rattle.sqlite_schema.specs.declared.schema.Column.{Column}
use Rattle.sqlite_schema.specs.declared.schema.Kind.{Kind}
use Rattle.sqlite_schema.specs.declared.schema.Kind.TheVariants.{Integer, Blob}
use Rattle.sqlite_schema.specs.contracts.schema.Schema.{the_row}
use base.Stored.{Coded-set}
use Rattle.sqlite_catalog.specs.Listing.{IsSound}
use Rattle.sqlite.specs.Effect.{Database, IsDatabase}
use Rattle.sqlite.specs.State.{State}

-- a column of a STRICT table with no default
abbrev pub strict_column : List ℕ → Kind → Bool → Column
strict_column name kind not_null =
    record { name = name; kind = kind; is_strict = true; not_null = not_null; default = Null; collation = Binary }

abbrev pub line_columns : List Column
line_columns = strict_column (codes "number") Integer false ∷ strict_column (codes "line") Blob true ∷ []

-- the table has only its columns and its primary key
pub record HasNoRules (table : Table) : Type 0 where
  pub uniques : table.uniques ≡ []
  pub orders : table.orders ≡ []
  pub checks : table.checks ≡ []
  pub references : table.references ≡ []
  pub computed : table.computed ≡ []
  pub stamps : table.stamps ≡ record { places = []; terms = []; formats = [] }
  pub is_counted : table.is_counted ≡ false

-- the table of the lines: the number of a line is its rowid
abbrev pub line_table : Table
line_table = record {
  name = codes "sdb_line";
  tree = 0;
  columns = line_columns;
  key = Some 0;
  primary = 0 ∷ [];
  uniques = [];
  orders = [];
  checks = [];
  references = [];
  computed = [];
  stamps = record { places = []; terms = []; formats = [] };
  is_counted = false;
}

abbrev pub line_schema : Schema
line_schema = record { tables = line_table ∷ []; indexes = []; views = [] }

pub schema-prop : (schema : Schema) → IsProp (schema ≡ line_schema)
schema-prop schema = Coded-set the_row.coded schema line_schema

abbrev pub empty_schema : Schema
empty_schema = record { tables = []; indexes = []; views = [] }

-- the row of a line, with its number
abbrev pub row_of : ℕ → List ℕ → Row
row_of n line = Int (pos n) ∷ Null ∷ Bytes line ∷ []

-- lines with the numbers from n on
abbrev pub rows_from : ℕ → List (List ℕ) → List Row
rows_from n [] = []
rows_from n (line ∷ lines) = row_of n line ∷ rows_from (suc n) lines

-- the mark of a file that is open for writing, or wasn't closed: a row before those of the lines
abbrev pub mark_row : Row
mark_row = row_of 0 (codes "open")

-- the rows of these lines, perhaps after the mark
abbrev pub AreRowsOf : List (List ℕ) → List Row → Type 0
AreRowsOf lines rows = (rows ≡ rows_from 1 lines) ⊎ (rows ≡ mark_row ∷ rows_from 1 lines)

-- the trees are a database that has the table of these lines and nothing else
pub record ContainsLines (lines : List (List ℕ)) (db : Trees) : Type 0 where
  pub sound : IsSound line_schema db
  pub rows : AreRowsOf lines (db 0)

-- the trees are a database that has the table of lines, and the mark in it
pub record HasMark (db : Trees) : Type 0 where
  pub sound : IsSound line_schema db
  pub others : List Row
  pub rows : db 0 ≡ mark_row ∷ others

-- a database that is in use has the table of these lines and nothing else
pub record ShowsLines (lines : List (List ℕ)) (db : Database) : Type 0 where
  pub schema : db.schema ≡ line_schema
  pub rows : AreRowsOf lines (db.trees 0)

-- a database that is in use has the mark in the table of lines
abbrev pub ShowsMark : Database → Type 0
ShowsMark db = (others : List Row) × (db.trees 0 ≡ mark_row ∷ others)

-- the columns that the query reads: the number of a line, and the line
abbrev pub IsShownOf : List (List ℕ) → Row → Type 0
IsShownOf lines row = (n : ℕ) × (line : List ℕ) × (slice_get lines n ≡ Some line) × (row ≡ Int (pos (n + 1)) ∷ Bytes line ∷ [])

-- a transaction has added these lines after the others, and committed nothing
pub record Added (lines : List (List ℕ)) (old new : State) : Type 0 where
  pub inside : IsTrue new.in_transaction
  pub now : (before : List (List ℕ)) → ShowsLines before old.now → ShowsLines (before ++ lines) new.now
  pub sound : (before : List (List ℕ)) → ShowsLines before old.now → IsDatabase old.now → IsDatabase new.now
  pub committed : new.committed ≡ old.committed
