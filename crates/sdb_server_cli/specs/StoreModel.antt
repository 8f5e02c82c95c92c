-- What a server has restored from the lines of its store.
use Rattle.std.specs.Prelude.{◌≡◌, ℕ, List, Ok}
use Rattle.sdb_dump.specs.JournalText.{JournalItem, restore}
use Rattle.sdb_store.specs.RestorerModel.{HasRestored, IsBackendOfRestorer}
use Rattle.sdb_store.specs.declared.restorer.Restorer.{Restorer}
use Rattle.sdb_store.specs.declared.restorer.RestoredBackend.{RestoredBackend}

-- the lines are those of a journal, and the restorer has restored its items
pub record HasRestoredLines (r : Restorer) (lines : List (List ℕ)) : Type 0 where
  pub items : List JournalItem
  pub are_read : restore lines ≡ Ok items
  pub restored : HasRestored r items

-- the documents and the highest number of the backend are those of the lines
pub record IsBackendOfLines {R : Type 0} (lines : List (List ℕ)) (b : RestoredBackend R) : Type 0 where
  pub restorer : Restorer
  pub from_lines : HasRestoredLines restorer lines
  pub backend : IsBackendOfRestorer restorer b
