-- What the statements of the mark do.
use Rattle.std.proofs.Common.{◌≡◌, inl, inr, ℕ, suc, pos, negsuc, List, [], ◌∷◌, ◌++◌, length, map, flat_map, codes, Bool, true, false, None, Ok, Err, Result, OnOk, IfOk, refl, sym, ap, subst, ◌∙◌, arith, lt→ltb, IsTrue}
use Rattle.std.specs.Cmp.{int_cmp_is}
use Rattle.std.specs.declared.cmp.Ordering.TheVariants.{Equal, Greater}
use Rattle.sqlite_rules.specs.Cast.{as_integer}
use Rattle.sqlite_value.proofs.OrderLemmas.{value_cmp-Int}
use Rattle.std.specs.Prelude.{if◌then◌else◌}
use Rattle.std.specs.List.{list_all}
use Rattle.std.proofs.lemmas.List.Sorted.{length_permutation}
use Rattle.std.proofs.lemmas.List.{length-map}
use Rattle.sqlite_value.specs.declared.value.Value.TheVariants.{Null, Int, Blob as Bytes}
use Rattle.sqlite_value.specs.Order.{Row, value_cmp}
use Rattle.sqlite_sql.specs.declared.ops.BinaryOp.TheVariants.{Compare}
use Rattle.sqlite_sql.specs.declared.ops.CompareOp.TheVariants.{Eq}
use Rattle.sqlite_value.specs.declared.keys.Collation.TheVariants.{Binary}
use Rattle.sqlite_sql.specs.Ops.{unary, binary}
use Rattle.sqlite_sql.specs.Term.{Term, Env, lit, col, op2, holds}
use Rattle.sqlite_sql.specs.Query.{Query, inner, end, IsAnswer, output, Output}
use Rattle.sqlite_sql.specs.Program.{overlay}
use Rattle.sqlite_schema.specs.declared.command.Source.TheVariants.{Values}
use Rattle.sqlite_schema.specs.declared.command.Command.{Command}
use Rattle.sqlite_schema.specs.declared.command.Command.TheVariants.{Insert, Select}
use Rattle.sqlite_schema.specs.declared.schema.Keys.TheVariants.{Enforced}
use Rattle.sqlite_rules.specs.Edit.{edited, left_by, are_fresh, put_all, Applies}
use Rattle.sqlite_trees.specs.Tree.{Trees, put_row}
use Rattle.sqlite_tied.specs.Compute.{everything}
use Rattle.sqlite.specs.declared.error.Error.{Error}
use Rattle.sqlite.specs.declared.error.Error.TheVariants.{QueryReturnedNoRows}
use Rattle.sqlite.specs.Effect.{Database, IsDatabase, RefusesToRead}
use Rattle.sqlite_trees.specs.declared.error.StoreError.{StoreError}
use Rattle.sqlite_trees.specs.declared.error.StoreError.TheVariants as stored
use Rattle.std.proofs.Common.{Option}
use Rattle.sdb_linefile.specs.LineFile.{StoresLines}
use Rattle.sqlite.specs.Clock.{timed}
use Rattle.sqlite.specs.Listing.{understood, reads_listing}
use Rattle.sqlite.specs.State.{State, store_error, Executes, QueriesRow, Shown, IsUnchanged, FailsToQuery, IsNotRun}
use Rattle.sqlite.proofs.Callers.{IsPlain, command_of, runs_as, first_as, reads_as}
use Rattle.sdb_linefile.specs.LineTable.{line_schema, row_of, rows_from, mark_row, AreRowsOf, ContainsLines, ShowsLines, HasMark, ShowsMark}
use Rattle.sdb_linefile.proofs.Statements.{cast_null, either, edit_by, inserts, contains_now}

abbrev pub mark_text : List ℕ
mark_text = codes "INSERT INTO sdb_line (number, line) VALUES (0, x'6F70656E')"

abbrev mark_terms : List Term
mark_terms = lit (Int (pos 0)) ∷ lit Null ∷ lit (Bytes (codes "open")) ∷ []

abbrev mark_command : Command
mark_command = Insert 0 (Values mark_terms 3)

mark_is : command_of (understood line_schema mark_text) ≡ mark_command
unfolding understood everything
mark_is = refl

mark_plain : IsPlain (understood line_schema mark_text)
unfolding understood everything
mark_plain = (refl, refl)

cast_zero : as_integer (Int (pos 0)) ≡ Int (pos 0)
unfolding unary
cast_zero = either _ (Int (pos 0))

mark_news : (db : Trees) → (edit_by db [] mark_terms).news ≡ mark_row ∷ []
mark_news db = rw (cast_zero, cast_null) refl

-- the edit puts the mark into the rows
mark_edited : (db : Trees) (rows : List Row) → db 0 ≡ rows → edited db (edit_by db [] mark_terms) ≡ put_row mark_row rows
mark_edited db rows is = ap (put_all (db 0)) (mark_news db) ∙ ap (put_row mark_row) is

same_number : value_cmp (Int (pos 0)) (Int (pos 0)) ≡ Equal
same_number = value_cmp-Int (pos 0) (pos 0)

-- no second mark is inserted
mark_taken : (db : Trees) (rows : List Row) → db 0 ≡ mark_row ∷ rows → are_fresh (left_by db (edit_by db [] mark_terms)) (edit_by db [] mark_terms).news ≡ false
mark_taken db rows is = ap (are_fresh (db 0)) (mark_news db) ∙ ap (λ all. are_fresh all (mark_row ∷ [])) is ∙ rw same_number refl

put_mark_first : (lines : List (List ℕ)) → put_row mark_row (rows_from 1 lines) ≡ mark_row ∷ rows_from 1 lines
put_mark_first [] = refl
put_mark_first (x ∷ xs) = let greater : value_cmp (Int (pos 1)) (Int (pos 0)) ≡ Greater = value_cmp-Int (pos 1) (pos 0) in rw greater refl

mark_inserted : (db next : Trees) (lines : List (List ℕ)) → AreRowsOf lines (db 0) → Applies line_schema Enforced db (edit_by db [] mark_terms) next → next 0 ≡ mark_row ∷ rows_from 1 lines
mark_inserted db next lines (inl is) step = step.rows ∙ mark_edited db _ is ∙ put_mark_first lines
mark_inserted db next lines (inr is) step = absurd (let e = sym step.fresh ∙ mark_taken db _ is in cc)

-- the mark and the lines are committed
pub marks : (old new : State) (r : Result ℕ Error) → Executes mark_text [] old new r → OnOk r ((lines : List (List ℕ)) → ShowsLines lines old.now → old.in_transaction ≡ false
    → ContainsLines lines new.committed.trees × HasMark new.committed.trees)
marks old new (Err e) h = tt
marks old new (Ok count) h = λ lines has single.
    let w = runs_as mark_text [] old new line_schema has.schema mark_command mark_is mark_plain count h in
    let did = inserts old new.now w.tally [] [] mark_terms has.schema w.changed in
    let committed : new.committed ≡ new.now = w.shown.committed_is ∙ rw single refl in
    let rows = mark_inserted old.now.trees new.now.trees lines has.rows did.1 in
    let now : ShowsLines lines new.now = record { schema = did.0; rows = inr rows } in
    let all = contains_now lines new.now new.committed.trees now w.sound (ap (λ (d : Database). d.trees) committed) in
    (all, record { sound = all.sound; others = rows_from 1 lines; rows = ap (λ (d : Database). d.trees 0) committed ∙ rows })

-- the same of a database that had the mark
pub marked_before : (lines : List (List ℕ)) (old new : State) → StoresLines lines old → (IsTrue old.is_open → old.now ≡ old.committed) → IsDatabase old.now → ShowsMark old.now → IsUnchanged old new
    → ContainsLines lines new.committed.trees × HasMark new.committed.trees
marked_before lines old new has settled sound mark same =
    let committed : new.committed ≡ old.now = same.0.committed_is ∙ sym (settled has.is_open) in
    let all = contains_now lines old.now new.committed.trees has.now sound (ap (λ (d : Database). d.trees) committed) in
    (all, record { sound = all.sound; others = mark.0; rows = ap (λ (d : Database). d.trees 0) committed ∙ mark.1 })

-- ---- the query of the mark

abbrev pub find_text : List ℕ
find_text = codes "SELECT number FROM sdb_line WHERE number = 0"

abbrev is_zero : Term
is_zero = op2 (Compare Eq Binary) (col 1 0) (lit (Int (pos 0)))

abbrev find_query : Query
find_query = record {
  from = inner 0 end;
  filter = is_zero ∷ [];
  group = None;
  project = col 1 0 ∷ [];
  distinct = false;
  collations = [];
  order = [];
  limit = lit (Int (negsuc 0));
  offset = lit (Int (pos 0));
}

find_is : (command_of (understood line_schema find_text) ≡ Select (record { lets = []; body = find_query }) (codes "number" ∷ [])) × (reads_listing line_schema find_text ≡ false)
unfolding understood everything
find_is = (refl, refl)

find_plain : IsPlain (understood line_schema find_text)
unfolding understood everything
find_plain = (refl, refl)

-- what the filter keeps of a row
abbrev found_of : Row → List Env
found_of r = if list_all (holds ([] ∷ r ∷ [])) (is_zero ∷ []) then ([] ∷ r ∷ []) ∷ [] else []

line_is_above : (n : ℕ) → value_cmp (Int (pos (suc n))) (Int (pos 0)) ≡ Greater
line_is_above n =
    value_cmp-Int (pos (suc n)) (pos 0)
    ∙ sym (int_cmp_is (pos (suc n)) (pos 0) Greater (record { lt = lt→ltb 0 (suc n) (omega (arith)) }))

line_not_found : (n : ℕ) (x : List ℕ) → found_of (row_of (suc n) x) ≡ []
unfolding binary
line_not_found n x = rw (line_is_above n) refl

mark_found : found_of mark_row ≡ ([] ∷ mark_row ∷ []) ∷ []
unfolding binary
mark_found = rw same_number refl

none_found : (n : ℕ) (lines : List (List ℕ)) → flat_map found_of (rows_from (suc n) lines) ≡ []
none_found n [] = refl
none_found n (x ∷ xs) = ap (λ es. es ++ flat_map found_of (rows_from (suc (suc n)) xs)) (line_not_found n x) ∙ none_found (suc n) xs

count_found : (db : Trees) (rows : List Row) → IsAnswer find_query (overlay db []) [] rows → length rows ≡ length (flat_map found_of (db 0))
count_found db rows a =
    let shown : rows ≡ map (λ (o : Output). o.1) a.ordered = a.shown in
    let staged : a.staged ≡ flat_map found_of (db 0) = a.grouped in
    let kept : a.kept ≡ map (output find_query) a.staged = a.distinct in
    ap length shown ∙ length-map a.ordered (λ (o : Output). o.1) ∙ length_permutation _ _ a.same ∙ ap length kept ∙ length-map a.staged (output find_query) ∙ ap length staged

some_row : (db : Trees) (lines : List (List ℕ)) (row : Row) (tail : List Row) → AreRowsOf lines (db 0) → IsAnswer find_query (overlay db []) [] (row ∷ tail) → (others : List Row) × (db 0 ≡ mark_row ∷ others)
some_row db lines row tail (inl is) a = absurd (let none : suc (length tail) ≡ 0 = count_found db _ a ∙ ap length (ap (flat_map found_of) is ∙ none_found 0 lines) in omega (arith, none))
some_row db lines row tail (inr is) a = (rows_from 1 lines, is)

no_row : (db : Trees) (others : List Row) → db 0 ≡ mark_row ∷ others → ¬ IsAnswer find_query (overlay db []) [] []
no_row db others is a =
    let some : 0 ≡ length (found_of mark_row ++ flat_map found_of others) = count_found db [] a ∙ ap (λ rows. length (flat_map found_of rows)) is in
    let one : 0 ≡ suc (length (flat_map found_of others)) = some ∙ ap (λ es. length (es ++ flat_map found_of others)) mark_found in
    omega (arith, one)

not_a_cause : (cause : StoreError) → ¬ (QueryReturnedNoRows ≡ store_error cause)
not_a_cause stored.OutOfMemory e = cc
not_a_cause stored.Io e = cc
not_a_cause stored.Corrupt e = cc
not_a_cause stored.Full e = cc
not_a_cause stored.Broken e = cc
not_a_cause stored.Unstorable e = cc

module _ (old new : State) (has : old.now.schema ≡ line_schema) where
  shown_unchanged : (rows : List Row) → Shown find_text [] old new rows → IsUnchanged old new
  unfolding Shown
  shown_unchanged rows h =
      let known = sym h.1.is ∙ ap (λ s. understood s find_text) has in
      let bare = subst IsPlain (sym known) find_plain in
      let it = rw (bare.0) at h.2 in
      it.3

  -- no failure says that there are no rows
  never_fails : ¬ FailsToQuery find_text [] old new QueryReturnedNoRows
  unfolding FailsToQuery IsNotRun
  never_fails (inl (inl (inl fault, same))) = let e = fault.2 in cc
  never_fails (inl (inl (inr (c, is, inl long), same))) = let e = long.1 in cc
  never_fails (inl (inl (inr (c, is, inr (inl given)), same))) = let e = given.1 in cc
  never_fails (inl (inl (inr (c, is, inr (inr clock)), same))) = let e = clock.1 in cc
  never_fails (inl (inr fails)) = not_a_cause fails.0 fails.1
  never_fails (inr h) =
      let known = sym h.1.is ∙ ap (λ s. understood s find_text) has in
      let bare = subst IsPlain (sym known) find_plain in
      let it = rw (bare.0) at h.2 in
      let params = timed [] h.0.formats h.1.now in
      refused old.step_limit it.0 params (subst (λ k. RefusesToRead old.step_limit k it.0 params QueryReturnedNoRows) (ap command_of known ∙ find_is.0) it.2)
    where
      refused : (limit : Option ℕ) (db : Database) (params : Row) → ¬ RefusesToRead limit (Select (record { lets = []; body = find_query }) (codes "number" ∷ [])) db params QueryReturnedNoRows
      refused limit db params (inl typed) = let e = typed.0 in cc
      refused limit db params (inr (inl long)) = let e = long.0 in cc
      refused limit db params (inr (inr limited)) = let e = limited.0 in cc

  pub row_unchanged : (row : Row) → QueriesRow find_text [] old new (Ok row) → IsUnchanged old new
  unfolding QueriesRow
  row_unchanged row (inl h) = h.1
  row_unchanged row (inr h) = shown_unchanged h.0 h.1

  pub none_unchanged : QueriesRow find_text [] old new (Err QueryReturnedNoRows) → IsUnchanged old new
  unfolding QueriesRow
  none_unchanged (inl fails) = absurd (never_fails fails)
  none_unchanged (inr h) = shown_unchanged [] h.1

  pub row_is_mark : (row : Row) (lines : List (List ℕ)) → QueriesRow find_text [] old new (Ok row) → ShowsLines lines old.now → ShowsMark old.now
  row_is_mark row lines h shows =
      let got = (first_as find_text [] old new line_schema has _ find_is.0 find_plain find_is.1 row h).1 in
      some_row old.now.trees lines row got.0 shows.rows (got.1 Null)

  pub none_is_mark : QueriesRow find_text [] old new (Err QueryReturnedNoRows) → ¬ ShowsMark old.now
  unfolding QueriesRow
  none_is_mark (inl fails) mark = never_fails fails
  none_is_mark (inr h) mark =
      let got = reads_as find_text [] old new line_schema has _ find_is.0 find_plain find_is.1 [] h.1 in
      no_row old.now.trees mark.0 mark.1 (got.answer Null)

  -- what a query had, as a value
  pub found_some : (answer : Result Row Error) (r : Result Bool Error) → IfOk r (λ found. IsTrue found → (row : Row) × (answer ≡ Ok row)) → QueriesRow find_text [] old new answer
      → IfOk r (λ found. IsTrue found → (lines : List (List ℕ)) → ShowsLines lines old.now → ShowsMark old.now)
  found_some answer (Err e) some h = tt
  found_some answer (Ok found) some h = λ is lines shows. row_is_mark (some is).0 lines (subst (QueriesRow find_text [] old new) (some is).1 h) shows

  pub found_none : (answer : Result Row Error) (r : Result Bool Error) → IfOk r (λ found. found ≡ false → answer ≡ Err QueryReturnedNoRows) → QueriesRow find_text [] old new answer
      → IfOk r (λ found. found ≡ false → ¬ ShowsMark old.now)
  found_none answer (Err e) none h = tt
  found_none answer (Ok found) none h = λ is. none_is_mark (subst (QueriesRow find_text [] old new) (none is) h)

  pub found_same : (answer : Result Row Error) (r : Result Bool Error) → IfOk r (λ found. IsTrue found → (row : Row) × (answer ≡ Ok row))
      → IfOk r (λ found. found ≡ false → answer ≡ Err QueryReturnedNoRows) → QueriesRow find_text [] old new answer → OnOk r (IsUnchanged old new)
  found_same answer (Err e) some none h = tt
  found_same answer (Ok true) some none h = row_unchanged (some refl).0 (subst (QueriesRow find_text [] old new) (some refl).1 h)
  found_same answer (Ok false) some none h = none_unchanged (subst (QueriesRow find_text [] old new) (none refl) h)
