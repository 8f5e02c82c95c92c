-- The lines that an open finds.
use Rattle.std.proofs.Common.{◌≡◌, ◌⊎◌, inl, inr, ℕ, List, length, arith, false, [], Result, Ok, OnOk, IfOk, Err, refl, sym, ap, subst, ◌∙◌, IsTrue}
use Rattle.std.specs.Result.{is_err}
use Rattle.sqlite_wal.specs.Recovery.{Image}
use Rattle.sqlite_catalog.specs.Listing.{Lists, IsSound}
use Rattle.sqlite_catalog.proofs.ReadLemmas.{lists_once}
use Rattle.sqlite_trees.specs.Sound.{is_sound_list}
use Rattle.sqlite_trees.specs.Tree.{Trees}
use Rattle.sqlite_trees.specs.Objects.{catalog_tree}
use Rattle.sqlite.specs.Effect.{Database}
use Rattle.sqlite_schema.specs.declared.schema.Schema.{Schema}
use Rattle.sqlite.specs.Start.{FindsIn}
use Rattle.sqlite.specs.State.{State, Opens, IsLive}
use Rattle.sdb_linefile.specs.Damage.{HasLostLog}
use Rattle.sdb_linefile.specs.LineTable.{line_schema, empty_schema, AreRowsOf, ContainsLines, ShowsLines, ShowsMark}
use Rattle.sdb_linefile.specs.LineFile.{StoresLines, FilesContain, HasNoDatabase, HasNoTable, IsLineFile}

-- an open connection reads the schema of the trees
pub schema_found : (s : State) (db : Trees) (schema : Schema) → Opens s → IsLive s → s.committed.trees ≡ db → IsSound schema db → s.now.schema ≡ schema
schema_found s db schema opened live is sound =
    let now : s.now.trees ≡ db = ap (λ (d : Database). d.trees) opened.clean ∙ is in
    lists_once (db catalog_tree) s.now.schema schema (subst (λ t. IsSound s.now.schema t) now (live opened.is_open).0).lists sound.lists

-- no objects list the empty schema
lists_nothing : Lists [] empty_schema
unfolding is_sound_list
lists_nothing = record { listed = record { tables = tt; indexes = tt; views = tt; owned = tt; named = tt; loads = refl }; guarded = tt }

schema_of_nothing : (s : State) (image : Image) → FindsIn image s → Opens s → IsLive s → HasNoDatabase image → s.now.schema ≡ empty_schema
schema_of_nothing s image found opened live none = elim found.reads [
  | inl some ↦ absurd (none some.0 some.1 some.2 some.3 some.4)
  | inr nothing ↦
      (let objects : s.now.trees catalog_tree ≡ [] = ap (λ (d : Database). d.trees catalog_tree) opened.clean ∙ nothing.1.1 in
      lists_once [] s.now.schema empty_schema (subst (λ os. Lists os s.now.schema) objects (live opened.is_open).0.lists) lists_nothing)
]

-- files with no table have the empty schema
pub schema_of_empty : (s : State) (image : Image) → FindsIn image s → Opens s → IsLive s → HasNoTable image → s.now.schema ≡ empty_schema
schema_of_empty s image found opened live (inl none) = schema_of_nothing s image found opened live none
schema_of_empty s image found opened live (inr it) = schema_found s it.0 empty_schema opened live (found.holds it.0 it.1) it.2

line_not_empty : line_schema ≡ empty_schema → ⊥
line_not_empty same = let tables : 1 ≡ 0 = ap (λ (s : Schema). length s.tables) same in omega (arith, tables)

-- files whose connection reads the schema of the lines are a file of lines
pub line_file_found : (s : State) (image : Image) → FindsIn image s → Opens s → IsLive s → s.now.schema ≡ line_schema → IsLineFile image
line_file_found s image found opened live is = record {
  some = λ none. line_not_empty (sym is ∙ schema_of_empty s image found opened live none);
  table = λ db schema holds sound. sym (schema_found s db schema opened live (found.holds db holds) sound) ∙ is;
}

-- an open connection to such trees reads the lines
stores_found : (s : State) (lines : List (List ℕ)) (db : Trees) → s.now.trees ≡ db → Opens s → IsLive s → ((left : Trees) → s.may_leave left → left ≡ db) → ContainsLines lines db → StoresLines lines s
stores_found s lines db is opened live leaves holds = record {
  is_open = opened.is_open;
  now = record {
    schema = lists_once (db catalog_tree) s.now.schema line_schema (subst (λ t. IsSound s.now.schema t) is (live opened.is_open).0).lists holds.sound.lists;
    rows = subst (AreRowsOf lines) (ap (λ (t : Trees). t 0) (sym is)) holds.rows;
  };
  crash = λ left may. subst (ContainsLines lines) (sym (leaves left may)) holds;
}

-- at an open, the trees are the committed ones, and each crash leaves them
pub stores_opened : (s : State) (lines : List (List ℕ)) (db : Trees) → Opens s → IsLive s → (IsTrue s.is_open → (left : Trees) → s.may_leave left → left ≡ s.committed.trees)
    → s.committed.trees ≡ db → ContainsLines lines db → StoresLines lines s
stores_opened s lines db opened live settled is holds =
    stores_found s lines db (ap (λ (d : Database). d.trees) opened.clean ∙ is) opened live (λ left may. settled opened.is_open left may ∙ is) holds

pub stores_image : (s : State) (lines : List (List ℕ)) (image : Image) → FindsIn image s → Opens s → IsLive s → (IsTrue s.is_open → (left : Trees) → s.may_leave left → left ≡ s.committed.trees)
    → FilesContain lines image → StoresLines lines s
stores_image s lines image found opened live settled files = stores_opened s lines files.0 opened live settled (found.holds files.0 files.1) files.2

pub stores_either : (s : State) (these those : List (List ℕ)) (db : Trees) → Opens s → IsLive s → (IsTrue s.is_open → (left : Trees) → s.may_leave left → left ≡ s.committed.trees)
    → s.now.trees ≡ db → ContainsLines these db ⊎ ContainsLines those db → StoresLines these s ⊎ StoresLines those s
stores_either s these those db opened live settled is holds =
    let committed : s.committed.trees ≡ db = sym (ap (λ (d : Database). d.trees) opened.clean) ∙ is in
    elim holds [
      | inl these_held ↦ inl (stores_opened s these db opened live settled committed these_held)
      | inr those_held ↦ inr (stores_opened s those db opened live settled committed those_held)
    ]

pub at_ok : {A E X : Type 0} (r : Result A E) → is_err r ≡ false → OnOk r X → X
at_ok (Ok x) e h = h
at_ok (Err y) e h = absurd cc

pub map_ok : {A E : Type 0} {P Q : A → Type 0} (r : Result A E) → IfOk r P → ((x : A) → P x → Q x) → IfOk r Q
map_ok (Ok x) is step = step x is
map_ok (Err e) is step = tt

pub both_ok : {A E : Type 0} {P Q R : A → Type 0} (r : Result A E) → IfOk r P → IfOk r Q → ((x : A) → P x → Q x → R x) → IfOk r R
both_ok (Ok x) first second step = step x first second
both_ok (Err e) first second step = tt

module _ (s : State) (image : Image) (found : FindsIn image s) (opened : Opens s) where
  -- a connection to files without their log reads the mark
  pub lost_shows : HasLostLog image → ShowsMark s.now
  lost_shows lost =
      let is : s.now.trees ≡ lost.db = ap (λ (d : Database). d.trees) opened.clean ∙ found.holds lost.db lost.holds in
      (lost.mark.others, ap (λ (t : Trees). t 0) is ∙ lost.mark.rows)

  -- and has the table of the lines
  pub lost_lists : IsLive s → HasLostLog image → ¬ (s.now.schema ≡ empty_schema)
  lost_lists live lost empty = line_not_empty (sym (schema_found s lost.db line_schema opened live (found.holds lost.db lost.holds) lost.mark.sound) ∙ empty)

  -- such files with the mark lack their log
  pub lost_if_marked : (lines : List (List ℕ)) → image.log ≡ [] → FilesContain lines image → (ShowsLines lines s.now → ShowsMark s.now) → IsLive s → HasLostLog image
  lost_if_marked lines none files marks live =
      let is : s.now.trees ≡ files.0 = ap (λ (d : Database). d.trees) opened.clean ∙ found.holds files.0 files.1 in
      let shows : ShowsLines lines s.now = record {
        schema = schema_found s files.0 line_schema opened live (found.holds files.0 files.1) files.2.sound;
        rows = subst (AreRowsOf lines) (ap (λ (t : Trees). t 0) (sym is)) files.2.rows;
      } in
      let mark = marks shows in
      record { log = none; db = files.0; holds = files.1; mark = record { sound = files.2.sound; others = mark.0; rows = ap (λ (t : Trees). t 0) (sym is) ∙ mark.1 } }
