-- What the statements do.
use Rattle.std.proofs.lemmas.Bool.Decides.{nat_tests}
use Rattle.std.specs.Ordering.{int_cmp}
use Rattle.std.specs.declared.cmp.Ordering.TheVariants.{Less}
use Rattle.sqlite_value.specs.Order.{value_cmp}
use Rattle.sqlite_value.proofs.OrderLemmas.{value_cmp-Int}
use Rattle.sqlite_rules.specs.Edit.{id_in}
use Rattle.sqlite_trees.specs.Tree.{rowid}
use Rattle.std.specs.Prelude.{◌+ℤ◌}
use Rattle.std.proofs.Common.{◌≡◌, ◌⊎◌, inl, inr, ℕ, suc, ◌+◌, pos, List, [], ◌∷◌, ◌++◌, length, fold, codes, Bool, true, false, cond, None, Ok, Err, Result, OnOk, refl, sym, ap, subst, ◌∙◌, arith, IsTrue}
use Rattle.sqlite_value.specs.declared.value.Value.{Value}
use Rattle.sqlite_value.specs.declared.value.Value.TheVariants.{Null, Int, Blob as Bytes}
use Rattle.sqlite_sql.specs.Term.{Term, lit, col}
use Rattle.sqlite_sql.specs.Ops.{unary}
use Rattle.sqlite_schema.specs.declared.command.Source.TheVariants.{Values}
use Rattle.sqlite_schema.specs.declared.command.Command.TheVariants.{Insert, CreateTable}
use Rattle.sqlite_resolve.specs.Compile.{table_defined_by}
use Rattle.sqlite_rules.specs.Edit.{Edit, Applies, edit_of, edited, next_rowid}
use Rattle.sqlite_schema.specs.declared.schema.Keys.TheVariants.{Enforced}
use Rattle.sqlite_rules.specs.Cast.{as_integer}
use Rattle.sqlite_rules.specs.declared.error.Rowids.TheVariants.{Chosen}
use Rattle.sqlite_catalog.specs.Listing.{IsSound}
use Rattle.sqlite_catalog.specs.Change.{created, next_tree}
use Rattle.sqlite.specs.Does.{Tally, Does, lacks_sequence}
use Rattle.sqlite.specs.Rows.{Written, stamped}
use Rattle.sqlite.specs.Effect.{value_rows}
use Rattle.sqlite_value.specs.Order.{Row}
use Rattle.std.specs.Prelude.{◌/◌}
use Rattle.sqlite_trees.specs.Tree.{Trees, put_row}
use Rattle.sqlite_tied.specs.Compute.{everything}
use Rattle.sqlite.specs.declared.error.Error.{Error}
use Rattle.sqlite.specs.Effect.{Database, IsDatabase}
use Rattle.sqlite.specs.Listing.{understood}
use Rattle.sqlite.specs.State.{State, mode_of, Writes, Executes}
use Rattle.sqlite.specs.Held.{Held, state}
use Rattle.sqlite_trees.specs.declared.store.Store.{Ghosts}
use Rattle.sqlite_schema.specs.declared.command.Command.{Command}
use Rattle.sqlite.proofs.Callers.{IsPlain, command_of, statement_of, runs_as, one_step}
use Rattle.sdb_linefile.specs.LineTable.{line_table, line_schema, empty_schema, row_of, rows_from, mark_row, AreRowsOf, ContainsLines, ShowsLines}
use Rattle.sdb_linefile.specs.LineFile.{StoresLines}

abbrev pub create_text : List ℕ
create_text = codes "CREATE TABLE sdb_line (number INTEGER PRIMARY KEY, line BLOB NOT NULL) STRICT"

abbrev pub insert_text : List ℕ
insert_text = codes "INSERT INTO sdb_line (line) VALUES (?1)"

abbrev terms : List Term
terms = lit Null ∷ lit Null ∷ col 0 0 ∷ []

create_is : (command_of (understood empty_schema create_text) ≡ CreateTable) × (statement_of create_text (understood empty_schema create_text) ≡ create_text) × (table_defined_by create_text ≡ Ok line_table)
unfolding understood everything
create_is = (refl, refl, refl)

insert_is : command_of (understood line_schema insert_text) ≡ Insert 0 (Values terms 3)
unfolding understood everything
insert_is = refl

create_plain : IsPlain (understood empty_schema create_text)
unfolding understood everything
create_plain = (refl, refl)

insert_plain : IsPlain (understood line_schema insert_text)
unfolding understood everything
insert_plain = (refl, refl)

-- a part that gave a value did not stop on the way
went : {B E R : Type 0} {b : B} {Stops : E → Type 0} → ((stop : E) × Stops stop × (Ok b ≡ Err stop)) ⊎ R → R
went (inl stopped) = absurd (let e = stopped.2 in cc)
went (inr on) = on

same_value : {B E : Type 0} {a b : B} → ◌≡◌ {A = Result B E} (Ok a) (Ok b) → a ≡ b
same_value e = cc

creates : (old new : State) (r : Result ℕ Error) → old.now.schema ≡ empty_schema → Executes create_text [] old new r → OnOk r (ShowsLines [] new.now)
creates old new (Err e) has h = tt
creates old new (Ok count) has h =
    let w = subst (λ t. Writes old new None CreateTable t [] count) create_is.1 (runs_as create_text [] old new empty_schema has CreateTable create_is.0 create_plain count h) in
    let all = went w.changed in
    let first = went all.1 in
    let made = first.1 in
    let both : Ok made.table ≡ Ok line_table = sym made.defined ∙ create_is.2 in
    let same : made.table ≡ line_table = cc in
    let schema : first.0.schema ≡ line_schema = made.is ∙ ap (λ s. created s made.table) has ∙ ap (created empty_schema) same in
    let plain : lacks_sequence first.0.schema ≡ false = ap lacks_sequence schema in
    let now : new.now ≡ first.0 = ap (λ (p : Tally × Database). p.1) (same_value all.2) ∙ same_value (rw plain at first.2) in
    record {
      schema = ap (λ (d : Database). d.schema) now ∙ schema;
      rows = inl (ap (λ (d : Database). d.trees 0) now ∙ subst (λ s. first.0.trees (next_tree s) ≡ []) has made.empty);
    }

-- ---- a row after the others

below : (n k : ℕ) → int_cmp (pos n) (pos (n + suc k)) ≡ Less
below n k = grind (arith, nat_tests)

pub put_row_after : (n : ℕ) (line : List ℕ) (lines : List (List ℕ)) → put_row (row_of (n + length lines) line) (rows_from n lines) ≡ rows_from n (lines ++ line ∷ [])
put_row_after n line [] = let e : n + 0 ≡ n = omega arith in ap (λ k. row_of k line ∷ []) e
put_row_after n line (x ∷ xs) =
    let m : n + suc (length xs) ≡ suc n + length xs = omega arith in
    let less : value_cmp (Int (pos n)) (Int (pos (n + suc (length xs)))) ≡ Less = value_cmp-Int (pos n) (pos (n + suc (length xs))) ∙ below n (length xs) in
    rw less (ap (λ rest. row_of n x ∷ rest) (ap (λ k. put_row (row_of k line) (rows_from (suc n) xs)) m ∙ put_row_after (suc n) line xs))

pub put_row_marked : (line : List ℕ) (lines : List (List ℕ)) → put_row (row_of (1 + length lines) line) (mark_row ∷ rows_from 1 lines) ≡ mark_row ∷ rows_from 1 (lines ++ line ∷ [])
put_row_marked line lines =
    let m : 0 + suc (length lines) ≡ 1 + length lines = omega arith in
    let less : value_cmp (Int (pos 0)) (Int (pos (1 + length lines))) ≡ Less = value_cmp-Int (pos 0) (pos (1 + length lines)) ∙ subst (λ k. int_cmp (pos 0) (pos k) ≡ Less) m (below 0 (length lines)) in
    rw less (ap (λ rest. mark_row ∷ rest) (put_row_after 1 line lines))

counted : (n : ℕ) (lines : List (List ℕ)) → fold (λ _ r. id_in (rowid r) +ℤ pos 1) (pos n) (rows_from n lines) ≡ pos (n + length lines)
counted n [] = ap pos (omega arith)
counted n (x ∷ xs) =
    let one : pos n +ℤ pos 1 ≡ pos (suc n) = ap pos (omega arith) in
    ap (λ z. fold (λ _ r. id_in (rowid r) +ℤ pos 1) z (rows_from (suc n) xs)) one ∙ counted (suc n) xs ∙ ap pos (omega arith)

pub next_is : (lines : List (List ℕ)) → next_rowid (rows_from 1 lines) ≡ pos (1 + length lines)
next_is lines = counted 1 lines

-- the same after the mark
pub next_is_marked : (lines : List (List ℕ)) → next_rowid (mark_row ∷ rows_from 1 lines) ≡ pos (1 + length lines)
next_is_marked lines = counted 1 lines

pub either : (b : Bool) (x : Value) → cond b x x ≡ x
either true x = refl
either false x = refl

pub cast_null : as_integer Null ≡ Null
unfolding unary
cast_null = either _ Null

-- the edit of an INSERT of one row
abbrev pub edit_by : Trees → Row → List Term → Edit
edit_by db params all = edit_of db line_table [] Chosen 0 (value_rows (stamped line_table params) 3 (length all / 3) all)

-- an INSERT into the table of lines is the one step of its edit
pub inserts : (old : State) (after : Database) (tally : Tally) (text : List ℕ) (params : Row) (all : List Term) → old.now.schema ≡ line_schema
    → Does old.step_limit (mode_of old) params old.now text None (Insert 0 (Values all 3)) (Ok (tally, after))
    → (after.schema ≡ line_schema) × Applies line_schema Enforced old.now.trees (edit_by old.now.trees params all) after.trees
inserts old after tally text params all has h =
    let db = old.now.trees in
    let done = went (subst (λ s. Does old.step_limit (mode_of old) params (record old.now { schema = s }) text None (Insert 0 (Values all 3)) (Ok (tally, after))) has h) in
    let now = ap (λ (p : Tally × Database). p.1) (same_value (went (went done.2).2).2) in
    let given = went done.1 in
    let written = went (went given.2).2 in
    let counted = went written.2 in
    let trees : written.0 ≡ after.trees = sym (ap (λ (d : Database). d.trees) now ∙ ap (λ (it : Written). it.trees) (same_value counted.2) ∙ same_value counted.1) in
    let step = one_step line_schema _ db written.0 (edit_of db line_table [] Chosen 0 given.0) refl written.1 in (
      ap (λ (d : Database). d.schema) now,
      subst (λ (t : Trees). Applies line_schema Enforced db (edit_by db params all) t) trees (subst (λ rows. Applies line_schema Enforced db (edit_of db line_table [] Chosen 0 rows) written.0) given.1.1 step),
    )

put_added : (db : Trees) (line : List ℕ) (rows : List Row) (k : ℕ) → db 0 ≡ rows → next_rowid rows ≡ pos k → edited db (edit_by db (Bytes line ∷ []) terms) ≡ put_row (row_of k line) rows
put_added db line rows k is next = rw (is, next, cast_null) refl

added_row : (db next : Trees) (line : List ℕ) (lines : List (List ℕ)) → AreRowsOf lines (db 0) → next 0 ≡ edited db (edit_by db (Bytes line ∷ []) terms) → AreRowsOf (lines ++ line ∷ []) (next 0)
added_row db next line lines (inl is) rows = inl (rows ∙ put_added db line _ (1 + length lines) is (next_is lines) ∙ put_row_after 1 line lines)
added_row db next line lines (inr is) rows = inr (rows ∙ put_added db line _ (1 + length lines) is (next_is_marked lines) ∙ put_row_marked line lines)

abbrev command : Command
command = Insert 0 (Values terms 3)

does_add : (old : State) (after : Database) (tally : Tally) (text line : List ℕ) (lines : List (List ℕ)) → ShowsLines lines old.now
    → Does old.step_limit (mode_of old) (Bytes line ∷ []) old.now text None command (Ok (tally, after)) → ShowsLines (lines ++ line ∷ []) after
does_add old after tally text line lines has h =
    let did = inserts old after tally text (Bytes line ∷ []) terms has.schema h in
    record { schema = did.0; rows = added_row old.now.trees after.trees line lines has.rows did.1.rows }

module _ (old new : State) (line : List ℕ) where
  pub writes : (lines : List (List ℕ)) (count : ℕ) → ShowsLines lines old.now → Executes insert_text (Bytes line ∷ []) old new (Ok count)
      → Writes old new None command (statement_of insert_text (understood line_schema insert_text)) (Bytes line ∷ []) count
  writes lines count has h = runs_as insert_text (Bytes line ∷ []) old new line_schema has.schema command insert_is insert_plain count h

  pub stores : (r : Result ℕ Error) → Executes insert_text (Bytes line ∷ []) old new r → OnOk r ((lines : List (List ℕ)) → ShowsLines lines old.now → ShowsLines (lines ++ line ∷ []) new.now)
  stores (Err e) h = tt
  stores (Ok count) h = λ lines has. let w = writes lines count has h in does_add old new.now w.tally [] line lines has w.changed

-- a database of the lines, as its trees
pub contains_now : (lines : List (List ℕ)) (d : Database) (db : Trees) → ShowsLines lines d → IsDatabase d → db ≡ d.trees → ContainsLines lines db
contains_now lines d db has sound is = record {
  sound = subst (IsSound line_schema) (sym is) (subst (λ s. IsSound s d.trees) has.schema sound);
  rows = subst (AreRowsOf lines) (ap (λ (t : Trees). t 0) (sym is)) has.rows;
}

module _ {S : Type 0} (g : Ghosts S) (old new : Held S) where
  pub creates_file : (r : Result ℕ Error) → ((db : Trees) → IsTrue (g.view new.store).is_open → g.recovers new.store db → db ≡ (g.view new.store).committed)
      → (state g old).now.schema ≡ empty_schema → (state g old).in_transaction ≡ false → Executes create_text [] (state g old) (state g new) r
      → OnOk r (StoresLines [] (state g new))
  creates_file (Err e) law has single h = tt
  creates_file (Ok count) law has single h =
      let w = runs_as create_text [] (state g old) (state g new) empty_schema has CreateTable create_is.0 create_plain count h in
      let same : (state g new).committed ≡ (state g new).now = w.shown.committed_is ∙ rw single in
      let now = creates (state g old) (state g new) (Ok count) has h in
      record {
        is_open = w.shown.is_open;
        now = now;
        crash = λ db may. contains_now [] (state g new).now db now w.sound (law db w.shown.is_open may ∙ ap (λ (d : Database). d.trees) same);
      }
