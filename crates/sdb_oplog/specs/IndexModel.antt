-- The contents of a log's index.
use Rattle.std.specs.Prelude.{◌≡◌, ℕ, List, true, Option, option_and_then}
use Rattle.std.specs.Option.{is_some}
use Rattle.std.specs.Ordering.{nat_cmp}
use Rattle.std.specs.BTreeMap.{get, get_by_text}
use Rattle.sdb_oplog.specs.declared.index.Index.{Index}

-- the version of the entry with this source and seq
abbrev pub indexed_version : Index → List ℕ → ℕ → Option ℕ
indexed_version x s n = option_and_then (λ m. get nat_cmp m n) (get_by_text x.by_source s)

-- each source in the index has a seq
abbrev pub AllSourcesHaveEntries : Index → Type 0
AllSourcesHaveEntries x = (s : List ℕ) → is_some (get_by_text x.by_source s) ≡ true → (n : ℕ) × (is_some (indexed_version x s n) ≡ true)
