-- The lines of an open file, and those that a crash leaves in it.
use Rattle.std.specs.Prelude.{◌≡◌, ◌⊎◌, ℕ, List, [], length, true, IsTrue}
use Rattle.sqlite_trees.specs.Tree.{Trees}
use Rattle.sqlite_trees.specs.declared.store.Store.{Ghosts}
use Rattle.sqlite_schema.specs.declared.schema.Schema.{Schema}
use Rattle.sqlite_catalog.specs.Listing.{IsSound}
use Rattle.sqlite_wal.specs.Recovery.{Image}
use Rattle.sqlite_pages.specs.PageMap.{PageMap}
use Rattle.sqlite_pool.specs.Stored.{Adopts}
use Rattle.sqlite_store.specs.declared.catalog.Wanted.{Wanted}
use Rattle.sqlite_store.specs.Listing.{IsOurs}
use Rattle.sqlite_disk.specs.declared.Disk as disk
use Rattle.sqlite_disk.specs.declared.Files.{Files}
use Rattle.sqlite_store.specs.declared.store.FileStore.{FileStore}
use Rattle.sqlite.specs.Closing.{HoldsAlone}
use Rattle.sqlite.specs.Files.{HoldsDatabase, Finds, image_of}
use Rattle.sqlite.specs.Held.{state}
use Rattle.sqlite.specs.State.{State, HasCleanDisk}
use Rattle.sdb_linefile.specs.LineTable.{line_schema, empty_schema, ContainsLines, ShowsLines, HasMark}
use Rattle.sdb_linefile.specs.declared.line_file.LineFile.{LineFile}
use Rattle.sdb_linefile.specs.declared.line_file.UnreadFile.{UnreadFile}

-- each crash leaves exactly these lines
abbrev pub LeavesLines : List (List ℕ) → State → Type 0
LeavesLines lines s = (db : Trees) → s.may_leave db → ContainsLines lines db

-- each crash leaves the mark
abbrev pub LeavesMark : State → Type 0
LeavesMark s = (db : Trees) → s.may_leave db → HasMark db

-- each crash leaves exactly these lines or exactly those
abbrev pub LeavesEither : List (List ℕ) → List (List ℕ) → State → Type 0
LeavesEither these those s = (db : Trees) → s.may_leave db → ContainsLines these db ⊎ ContainsLines those db

-- the open connection reads exactly these lines, and each crash leaves exactly these
pub record StoresLines (lines : List (List ℕ)) (s : State) : Type 0 where
  pub is_open : IsTrue s.is_open
  pub now : ShowsLines lines s.now
  pub crash : LeavesLines lines s

-- a file that adopts a connection stores its lines, or none if its schema was empty; the disk was clean before
pub record AdoptsLines (schema : Schema) (old new : State) : Type 0 where
  pub clean : HasCleanDisk old
  pub lines : (lines : List (List ℕ)) → StoresLines lines old → StoresLines lines new
  pub created : schema ≡ empty_schema → StoresLines [] new

-- the files contain a database of these lines
abbrev pub FilesContain : List (List ℕ) → Image → Type 0
FilesContain lines image = (db : Trees) × HoldsDatabase image db × ContainsLines lines db

-- the files recover to no database
abbrev pub HasNoDatabase : Image → Type 0
HasNoDatabase image =
    (size : ℕ) (pages : PageMap) (wanted : List Wanted) → Adopts size image pages → ∥ IsOurs size true wanted pages ∥₁ → ⊥

-- the files recover to no database, or to one with no table, index or view
abbrev pub HasNoTable : Image → Type 0
HasNoTable image = HasNoDatabase image ⊎ ((db : Trees) × HoldsDatabase image db × IsSound empty_schema db)

-- the files contain a database, and one has the table of the lines and nothing else
pub record IsLineFile (image : Image) : Type 0 where
  pub some : ¬ HasNoTable image
  pub table : (db : Trees) (schema : Schema) → HoldsDatabase image db → IsSound schema db → schema ≡ line_schema

-- a database in the files has the table of the lines and nothing else, or no table
abbrev pub IsLineFileOrEmpty : Image → Type 0
IsLineFileOrEmpty image =
    (db : Trees) (schema : Schema) → HoldsDatabase image db → IsSound schema db → (schema ≡ line_schema) ⊎ (schema ≡ empty_schema)

module _ {S : Type 0} {g : Ghosts S} where
  abbrev pub unread_state : UnreadFile S g → State
  unread_state f = state g f.conn

  abbrev pub file_state : LineFile S g → State
  file_state f = state g f.conn

  -- the file contains exactly these lines, and each crash leaves exactly these
  abbrev pub IsUnreadFileOf : List (List ℕ) → UnreadFile S g → Type 0
  IsUnreadFileOf lines f = StoresLines lines (unread_state f)

  -- the file contains exactly these lines and counts them, and each crash leaves exactly these
  abbrev pub IsFileOf : List (List ℕ) → LineFile S g → Type 0
  IsFileOf lines f = StoresLines lines (file_state f) × (f.count ≡ length lines)

module _ {D : Type 0} {d : disk.Ghosts D} {g : Ghosts (FileStore D d)} where
  -- the file was opened from two files of which the database file alone holds the mark
  pub record HasMarkAlone (f : LineFile (FileStore D d) g) : Type 0 where
    pub files : Files D
    pub found : Finds files f.conn
    pub db : Trees
    pub alone : HoldsAlone (image_of d files) db
    pub mark : HasMark db

  -- The file contains exactly these lines, and each crash leaves exactly these and the mark. The database file has the mark
  -- without its log.
  pub record IsMarkedFileOf (lines : List (List ℕ)) (f : LineFile (FileStore D d) g) : Type 0 where
    pub contents : IsFileOf lines f
    pub crash : LeavesMark (file_state f)
    pub file : HasMarkAlone f
