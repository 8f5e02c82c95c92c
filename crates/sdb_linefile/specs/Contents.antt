-- The contents of the files at a path, and what an open of a copy finds.
use Rattle.std.specs.Prelude.{ℕ, List}
use Rattle.sqlite_trees.specs.declared.store.Store.{Ghosts}
use Rattle.sqlite_wal.specs.Recovery.{Image}
use Rattle.sdb_linefile.specs.LineFile.{FilesContain, IsLineFile, IsUnreadFileOf}
use Rattle.sdb_linefile.specs.declared.files.FileContents.{FileContents}
use Rattle.sdb_linefile.specs.declared.line_file.UnreadFile.{UnreadFile}

abbrev pub image_of_contents : FileContents → Image
image_of_contents c = record { log = c.log.items; db = c.file.items }

-- the files are a file of lines, and the open copy has its lines
pub record IsReadOf {S : Type 0} {g : Ghosts S} (image : Image) (f : UnreadFile S g) : Type 0 where
  pub table : IsLineFile image
  pub lines : (lines : List (List ℕ)) → FilesContain lines image → IsUnreadFileOf lines f
