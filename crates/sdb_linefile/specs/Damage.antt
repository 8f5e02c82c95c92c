-- What is wrong with the two files of a store, decided from the length of the database file and the bytes of its log, or from what
-- the database file holds if there is no log.
use Rattle.std.specs.Prelude.{◌≡◌, [], ℕ, ◌<◌, ◌/◌, List, length, slice_index}
use Rattle.sqlite_wal.specs.Format.{be32, IsHeader, page_number, count_page}
use Rattle.sqlite_wal.specs.Recovery.{Image, header, frame, Passes}
use Rattle.sqlite_wal.specs.PageSize.{IsPageSize}
use Rattle.sqlite_trees.specs.Tree.{Trees}
use Rattle.sqlite.specs.Files.{HoldsDatabase}
use Rattle.sdb_linefile.specs.LineTable.{HasMark}
use Rattle.sdb_linefile.specs.declared.damage.Damage.{Damage}
use Rattle.sdb_linefile.specs.declared.damage.Damage.TheVariants.{MissingFile, MissingLog, Header, Frame}

-- the log is longer than the header of an empty log and the part of a frame after it
abbrev pub IsLongLog : List ℕ → Type 0
IsLongLog log = 41 < length log

-- the page size that the log's header names
abbrev pub page_size_of : List ℕ → ℕ
page_size_of log = be32 (header log) 8

-- the header is one that SQLite reads
abbrev pub HasSoundHeader : List ℕ → Type 0
HasSoundHeader log = IsHeader (page_size_of log) (header log) × IsPageSize (page_size_of log)

-- The log is being emptied: the first byte of its header is 0 until the others are synced. These bytes are the same in the old
-- header and the new one, so a power cut leaves them.
pub record IsBeingEmptied (log : List ℕ) : Type 0 where
  pub first : slice_index log 0 ≡ 0
  pub second : slice_index log 1 ≡ 0x7f
  pub third : slice_index log 2 ≡ 0x06
  pub fourth : slice_index log 3 / 2 ≡ 0x82 / 2
  pub version : be32 log 4 ≡ 3007000

-- Frame j is sound and begins a group that counts its bytes. Such a group is written once the groups before it are synced.
pub record BeginsGroup (page_size : ℕ) (log : List ℕ) (j : ℕ) : Type 0 where
  pub sound : Passes page_size log j
  pub counts : page_number (frame page_size log j) ≡ count_page

-- an unsound frame stands before a group that was written after it was synced
abbrev pub HasLostFrame : ℕ → List ℕ → Type 0
HasLostFrame page_size log = (i : ℕ) × (j : ℕ) × (i < j) × (¬ Passes page_size log i) × BeginsGroup page_size log j

-- This is wrong with a log and a database file of this length, which is 0 if there is none. A missing log is no damage of these:
-- `HasLostLog` says when it is one of the database file.
abbrev pub IsDamaged : Damage → ℕ → List ℕ → Type 0
IsDamaged MissingFile file_len log = IsLongLog log × (file_len ≡ 0)
IsDamaged Header file_len log = IsLongLog log × (¬ HasSoundHeader log) × (¬ IsBeingEmptied log)
IsDamaged MissingLog file_len log = ⊥
IsDamaged Frame file_len log = IsLongLog log × HasSoundHeader log × HasLostFrame (page_size_of log) log

-- the log is missing, and the database file alone holds the mark, which a close deletes
pub record HasLostLog (image : Image) : Type 0 where
  pub log : image.log ≡ []
  pub db : Trees
  pub holds : HoldsDatabase image db
  pub mark : HasMark db

-- nothing is wrong with the files
pub record IsUndamaged (image : Image) : Type 0 where
  pub sound : (damage : Damage) → ¬ IsDamaged damage (length image.db) image.log
  pub complete : ¬ HasLostLog image
