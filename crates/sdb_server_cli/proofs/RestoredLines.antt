-- A sink that restores each line has restored the items of all lines.
use Rattle.std.specs.Prelude.{◌≡◌, refl, ℕ, ◌+◌, List, [], ◌∷◌, ◌++◌, Ok, Err}
use Rattle.std.specs.Option.{option_map_or}
use Rattle.std.proofs.Common.{sym, ap, ◌∙◌, subst}
use Rattle.sdb_linefile.specs.Lines.{AcceptsAll}
use Rattle.sdb_dump.specs.JournalText.{JournalItem, restore_from}
use Rattle.sdb_store.specs.RestorerModel.{HasRestored, RestorerAfterLine}
use Rattle.sdb_server_cli.specs.declared.store_file.RestoringSink.{RestoringSink}

-- the restorer of a sink accepts a line
abbrev pub Restores : RestoringSink → List ℕ → RestoringSink → Type 0
Restores old line new = RestorerAfterLine old.restorer new.restorer line

-- the items of lines from line n on, and that the restorer has restored them
pub record RestoredFrom (n : ℕ) (before : List JournalItem) (lines : List (List ℕ)) (b : RestoringSink) : Type 0 where
  pub items : List JournalItem
  pub are_read : restore_from n before lines ≡ Ok items
  pub restored : HasRestored b.restorer items

pub restored_from : (n : ℕ) (before : List JournalItem) (lines : List (List ℕ)) (a b : RestoringSink)
    → HasRestored a.restorer before → AcceptsAll Restores lines a b → RestoredFrom n before lines b
restored_from n before [] a b has same =
    record { items = before; are_read = refl; restored = subst (λ s. HasRestored s.restorer before) (sym same) has }
restored_from n before (line ∷ lines) a b has all =
    let mid = all.0 in
    let next = all.1.item before has in
    let more = restored_from (n + 1) (before ++ next.item ∷ []) lines mid b next.restored all.2 in
    record {
      items = more.items;
      are_read = ap (λ o. option_map_or (λ x. restore_from (n + 1) (before ++ x ∷ []) lines) o (Err n)) next.accepted ∙ more.are_read;
      restored = more.restored;
    }
