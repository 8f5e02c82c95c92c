-- The rows that the query reads, and the lines that the sink accepts.
use Rattle.std.proofs.Common.{◌≡◌, inl, inr, ◌≤◌, ℕ, zero, suc, ◌+◌, pos, negsuc, List, [], ◌∷◌, ◌++◌, length, map, flat_map, take, codes, slice_get, false, Some, None, All, refl, sym, ap, subst, subst₂, ◌∙◌, arith, length-append}
use Rattle.std.specs.List.Sorted.{IsPermutation}
use Rattle.std.proofs.lemmas.List.Sorted.{length_permutation, All-permutation}
use Rattle.std.proofs.lemmas.List.Elements.{All-from_recursion, recursion_from_All, All-map}
use Rattle.std.specs.List.{AllByRecursion, list_all}
use Rattle.std.specs.Prelude.{if◌then◌else◌}
use Rattle.std.specs.Ordering.{int_eq}
use Rattle.std.proofs.lemmas.Bool.Decides.{nat_tests}
use Rattle.std.proofs.lemmas.List.{append_assoc, length-map}
use Rattle.std.proofs.Math.Seq.{take-length}
use Rattle.sqlite_value.specs.declared.value.Value.TheVariants.{Null, Int, Blob as Bytes}
use Rattle.sqlite_value.specs.declared.keys.Collation.TheVariants.{Binary}
use Rattle.sqlite_value.specs.declared.keys.Key.{Key}
use Rattle.sqlite_value.specs.Order.{Row}
use Rattle.sqlite_sql.specs.Term.{Env, lit, col, holds}
use Rattle.sqlite_sql.specs.Query.{Query, inner, end, IsAnswer, output, Output}
use Rattle.sqlite_sql.specs.Program.{overlay}
use Rattle.sqlite_schema.specs.declared.command.Command.TheVariants.{Select}
use Rattle.sqlite_trees.specs.Tree.{Trees}
use Rattle.sqlite_tied.specs.Compute.{everything}
use Rattle.sqlite.specs.Listing.{understood, reads_listing}
use Rattle.sqlite_trees.specs.declared.store.Store.{Ghosts}
use Rattle.sqlite.specs.Given.{HasGiven}
use Rattle.sqlite.specs.Held.{Held, state}
use Rattle.sqlite.specs.State.{State, HasCleanDisk, IsUnchanged, Shown, Begins, Survives, CommitsShowing}
use Rattle.sqlite.proofs.Callers.{IsPlain, command_of, reads_as, begins_as, given_begin, unchanged_then, never_commits}
use Rattle.sqlite.proofs.StateLemmas.{survives_weaker}
use Rattle.sdb_linefile.specs.Lines.{AcceptsAll}
use Rattle.sdb_linefile.specs.LineTable.{line_schema, row_of, rows_from, AreRowsOf, ShowsLines, IsShownOf}
use Rattle.sdb_linefile.specs.LineFile.{StoresLines}

abbrev pub select_text : List ℕ
select_text = codes "SELECT number, line FROM sdb_line WHERE number ORDER BY number"

abbrev by_number : Key
by_number = record { collation = Binary; descending = false }

abbrev query : Query
query = record {
  from = inner 0 end;
  filter = col 1 0 ∷ [];
  group = None;
  project = col 1 0 ∷ col 1 2 ∷ [];
  distinct = false;
  collations = [];
  order = (col 1 0, by_number) ∷ [];
  limit = lit (Int (negsuc 0));
  offset = lit (Int (pos 0));
}

select_is : (command_of (understood line_schema select_text) ≡ Select (record { lets = []; body = query }) (codes "number" ∷ codes "line" ∷ [])) × (reads_listing line_schema select_text ≡ false)
unfolding understood everything
select_is = (refl, refl)

pub select_plain : IsPlain (understood line_schema select_text)
unfolding understood everything
select_plain = (refl, refl)

abbrev shown_of : ℕ → List ℕ → Row
shown_of n line = Int (pos n) ∷ Bytes line ∷ []

abbrev outs_from : ℕ → List (List ℕ) → List Output
outs_from n [] = []
outs_from n (x ∷ xs) = (Int (pos n) ∷ [], shown_of n x) ∷ outs_from (suc n) xs

staged_from : ℕ → List (List ℕ) → List Env
staged_from n [] = []
staged_from n (x ∷ xs) = ([] ∷ row_of n x ∷ []) ∷ staged_from (suc n) xs

-- what the filter keeps of a row
abbrev kept_of : Row → List Env
kept_of r = if list_all (holds ([] ∷ r ∷ [])) (col 1 0 ∷ []) then ([] ∷ r ∷ []) ∷ [] else []

not_zero : (n : ℕ) → int_eq (pos (suc n)) (pos 0) ≡ false
not_zero n = grind (arith, nat_tests)

line_kept : (n : ℕ) (x : List ℕ) → kept_of (row_of (suc n) x) ≡ ([] ∷ row_of (suc n) x ∷ []) ∷ []
line_kept n x = rw (not_zero n) refl

matched : (n : ℕ) (lines : List (List ℕ)) → flat_map kept_of (rows_from (suc n) lines) ≡ staged_from (suc n) lines
unfolding staged_from
matched n [] = refl
matched n (x ∷ xs) = ap (λ es. es ++ flat_map kept_of (rows_from (suc (suc n)) xs)) (line_kept n x) ∙ ap (λ es. ([] ∷ row_of (suc n) x ∷ []) ∷ es) (matched (suc n) xs)

all_matched : (lines : List (List ℕ)) (rows : List Row) → AreRowsOf lines rows → flat_map kept_of rows ≡ staged_from 1 lines
all_matched lines rows (inl is) = ap (flat_map kept_of) is ∙ matched 0 lines
all_matched lines rows (inr is) = ap (flat_map kept_of) is ∙ matched 0 lines

output_all : (n : ℕ) (lines : List (List ℕ)) → map (output query) (staged_from n lines) ≡ outs_from n lines
unfolding staged_from
output_all n [] = refl
output_all n (x ∷ xs) = ap (λ os. (Int (pos n) ∷ [], shown_of n x) ∷ os) (output_all (suc n) xs)

at_end : (before : List (List ℕ)) (x : List ℕ) (xs : List (List ℕ)) → slice_get (before ++ x ∷ xs) (length before) ≡ Some x
at_end [] x xs = refl
at_end (b ∷ bs) x xs = at_end bs x xs

each_shown : (before lines : List (List ℕ)) → AllByRecursion (λ (o : Output). IsShownOf (before ++ lines) o.1) (outs_from (suc (length before)) lines)
each_shown before [] = tt
each_shown before (x ∷ xs) =
    let number : pos (suc (length before)) ≡ pos (length before + 1) = ap pos (omega arith) in
    let longer : length (before ++ x ∷ []) ≡ suc (length before) = length-append before (x ∷ []) ∙ omega arith in (
      (length before, x, at_end before x xs, ap (λ n. Int n ∷ Bytes x ∷ []) number),
      subst₂ (λ all n. AllByRecursion (λ (o : Output). IsShownOf all o.1) (outs_from (suc n) xs)) (append_assoc before (x ∷ []) xs) longer (each_shown (before ++ x ∷ []) xs),
    )

count_outs : (n : ℕ) (lines : List (List ℕ)) → length (outs_from n lines) ≡ length lines
count_outs n [] = refl
count_outs n (x ∷ xs) = ap suc (count_outs (suc n) xs)

-- rows show all lines, in any order
pub record AreShownOf (lines : List (List ℕ)) (rows : List Row) : Type 0 where
  pub count : length rows ≡ length lines
  pub each : All (IsShownOf lines) rows

-- an answer of the query shows the lines
answered : (db : Trees) (lines : List (List ℕ)) (rows : List Row) → AreRowsOf lines (db 0) → IsAnswer query (overlay db []) [] rows → AreShownOf lines rows
answered db lines rows has a =
    let staged : a.staged ≡ staged_from 1 lines = a.grouped ∙ all_matched lines (db 0) has in
    let kept : a.kept ≡ outs_from 1 lines = a.distinct ∙ ap (map (output query)) staged ∙ output_all 1 lines in
    let same : IsPermutation (outs_from 1 lines) a.ordered = subst (λ k. IsPermutation k a.ordered) kept a.same in
    let is : rows ≡ map (λ (o : Output). o.1) a.ordered = a.shown in
    record {
      count = ap length is ∙ length-map a.ordered (λ (o : Output). o.1) ∙ length_permutation _ _ same ∙ count_outs 1 lines;
      each = subst (All (IsShownOf lines)) (sym is) (All-map (IsShownOf lines) (λ (o : Output). o.1) a.ordered
          (All-permutation (λ (o : Output). IsShownOf lines o.1) _ _ same (All-from_recursion (λ (o : Output). IsShownOf lines o.1) _ (each_shown [] lines))));
    }

-- the whole answer
shows : (old new : State) (lines : List (List ℕ)) (rows : List Row) → ShowsLines lines old.now → Shown select_text [] old new rows → AreShownOf lines rows
shows old new lines rows has h =
    let got = reads_as select_text [] old new line_schema has.schema _ select_is.0 select_plain select_is.1 rows h in
    answered old.now.trees lines rows has.rows (got.answer Null)

-- the first rows of an answer
begins : (s : State) (lines : List (List ℕ)) (rows : List Row) → ShowsLines lines s.now → Begins select_text [] s rows → (tail : List Row) × AreShownOf lines (rows ++ tail)
begins s lines rows has h =
    let got = (begins_as select_text [] s s line_schema has.schema _ select_is.0 select_plain select_is.1 rows h).1 in
    (got.0, answered s.now.trees lines (rows ++ got.0) has.rows (got.1 Null))

after : (rows tail : List Row) (row : Row) (P : Row → Type 0) → AllByRecursion P ((rows ++ row ∷ []) ++ tail) → P row
after [] tail row P h = h.0
after (r ∷ rows) tail row P h = after rows tail row P h.1

-- the last of the rows that were read shows a line, and there are no more rows than lines
last_shown : (s : State) (lines : List (List ℕ)) (rows : List Row) (row : Row) → ShowsLines lines s.now → Begins select_text [] s (rows ++ row ∷ [])
    → IsShownOf lines row × (suc (length rows) ≤ length lines)
last_shown s lines rows row has h =
    let got = begins s lines (rows ++ row ∷ []) has h in
    let all : AllByRecursion (IsShownOf lines) ((rows ++ row ∷ []) ++ got.0) = recursion_from_All (IsShownOf lines) _ got.1.each in
    let count : length rows + 1 + length got.0 ≡ length lines =
    sym (length-append (rows ++ row ∷ []) got.0 ∙ ap (λ n. n + length got.0) (length-append rows (row ∷ []))) ∙ got.1.count in
    (after rows got.0 row (IsShownOf lines) all, omega (arith, count))

taken_next : (xs : List (List ℕ)) (i : ℕ) (x : List ℕ) → slice_get xs i ≡ Some x → take i xs ++ x ∷ [] ≡ take (i + 1) xs
taken_next [] i x h = absurd cc
taken_next (y ∷ ys) zero x h = let e : y ≡ x = cc in ap (λ z. z ∷ []) (sym e)
taken_next (y ∷ ys) (suc i) x h =
    let e : suc (i + 1) ≡ suc i + 1 = omega arith in
    subst (λ k. take (suc i) (y ∷ ys) ++ x ∷ [] ≡ take k (y ∷ ys)) e (ap (λ zs. y ∷ zs) (taken_next ys i x h))

accepts_then : {A : Type 0} (accepts : A → List ℕ → A → Type 0) (xs : List (List ℕ)) (x : List ℕ) (a b c : A) → AcceptsAll accepts xs a b → accepts b x c → AcceptsAll accepts (xs ++ x ∷ []) a c
accepts_then accepts [] x a b c h last = (c, subst (λ k. accepts k x c) h last, refl)
accepts_then accepts (y ∷ xs) x a b c h last = (h.0, h.1, accepts_then accepts xs x h.0 b c h.2 last)

-- the query has given this number of rows, and the sink has accepted their lines
pub record HasReadSome {S A : Type 0} (g : Ghosts S) (accepts : A → List ℕ → A → Type 0) (old now : Held S) (first last : A) (count : ℕ) : Type 0 where
  pub given : List Row
  pub is_given : HasGiven g select_text [] now given
  pub counted : length given ≡ count
  pub unchanged : IsUnchanged (state g old) (state g now)
  pub accepted : (lines : List (List ℕ)) → ShowsLines lines (state g old).now → (count ≤ length lines) × AcceptsAll accepts (take count lines) first last

shows_still : {lines : List (List ℕ)} (old new : State) → IsUnchanged old new → ShowsLines lines old.now → ShowsLines lines new.now
shows_still {lines} old new same has = subst (ShowsLines lines) (sym same.0.now_is) has

pub read_none : {S A : Type 0} (g : Ghosts S) (accepts : A → List ℕ → A → Type 0) (old now : Held S) (first : A) → HasGiven g select_text [] now [] × IsUnchanged (state g old) (state g now)
    → HasReadSome g accepts old now first first 0
read_none g accepts old now first h = record { given = []; is_given = h.0; counted = refl; unchanged = h.1; accepted = λ lines has. (omega arith, refl) }

pub read_one : {S A : Type 0} (g : Ghosts S) (accepts : A → List ℕ → A → Type 0) (old mid now : Held S) (first last next : A) (count : ℕ) (row : Row) (line : List ℕ)
    → HasReadSome g accepts old mid first last count → ((given : List Row) → HasGiven g select_text [] mid given → HasGiven g select_text [] now (given ++ row ∷ []))
    → IsUnchanged (state g mid) (state g now)
    → ((lines : List (List ℕ)) → IsShownOf lines row → slice_get lines count ≡ Some line) → accepts last line next
    → HasReadSome g accepts old now first next (count + 1)
read_one g accepts old mid now first last next count row line was advances same at accepted =
    let given = advances was.given was.is_given in
    let unchanged = unchanged_then (state g old) (state g mid) (state g now) was.unchanged same in
    record {
      given = was.given ++ row ∷ [];
      is_given = given;
      counted = length-append was.given (row ∷ []) ∙ ap (λ n. n + 1) was.counted;
      unchanged = unchanged;
      accepted = λ lines has.
          let shown = last_shown (state g now) lines was.given row (shows_still (state g old) (state g now) unchanged has) (given_begin g select_text [] now _ given) in
          let more = accepts_then accepts (take count lines) line first last next (was.accepted lines has).1 accepted in
          (omega (arith, shown.1, was.counted), subst (λ ls. AcceptsAll accepts ls first next) (taken_next lines count line (at lines shown.0)) more);
    }

pub stores_still : (lines : List (List ℕ)) (old new : State) → IsUnchanged old new → ((db : Trees) → new.may_leave db → old.may_leave db) → StoresLines lines old → StoresLines lines new
stores_still lines old new same crash has = record {
  is_open = same.0.is_open;
  now = shows_still old new same has.now;
  crash = λ db may. has.crash db (crash db may);
}

-- at the end of the rows
pub read_all : {S A : Type 0} (g : Ghosts S) (accepts : A → List ℕ → A → Type 0) (old mid now : Held S) (first last : A) (count : ℕ)
    → HasReadSome g accepts old mid first last count → ((given : List Row) → HasGiven g select_text [] mid given → Shown select_text [] (state g mid) (state g now) given)
    → IsUnchanged (state g mid) (state g now) → ((db : Trees) → (state g now).may_leave db → (state g old).may_leave db)
    → (lines : List (List ℕ)) → StoresLines lines (state g old) → StoresLines lines (state g now) × (count ≡ length lines) × AcceptsAll accepts lines first last
read_all g accepts old mid now first last count was ends same crash lines has =
    let unchanged = unchanged_then (state g old) (state g mid) (state g now) was.unchanged same in
    let shown = shows (state g mid) (state g now) lines was.given (shows_still (state g old) (state g mid) was.unchanged has.now) (ends was.given was.is_given) in
    let all : count ≡ length lines = sym was.counted ∙ shown.count in
    (stores_still lines (state g old) (state g now) unchanged crash has, all, subst (λ ls. AcceptsAll accepts ls first last) (ap (λ n. take n lines) all ∙ take-length lines) (was.accepted lines has.now).1)

-- the statement of the query commits nothing
pub commits_nothing : (old new : State) → old.now.schema ≡ line_schema → Survives old new (CommitsShowing select_text [] old) → Survives old new (λ _. ⊥)
commits_nothing old new has = survives_weaker old new _ _ (λ _ db. never_commits select_text [] old db (subst (λ s. IsPlain (understood s select_text)) (sym has) select_plain))

pub leaves_still : (old new : State) → Survives old new (λ _. ⊥) → HasCleanDisk new → (db : Trees) → new.may_leave db → old.may_leave db
leaves_still old new s clean db may = elim (s.crash clean db may) [
  | inl was ↦ was
  | inr none ↦ absurd none
]
