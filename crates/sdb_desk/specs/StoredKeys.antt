-- The keys of documents with entries.
use Rattle.std.specs.Prelude.{◌≡◌, List}
use Rattle.std.specs.Set.{is_member}
use Rattle.std.specs.List.Sorted.{IsStrictlySortedBy}
use Rattle.sdb_oplog.specs.Keys.{PlainKey, Logs, compare_keys, keys_equal}
use Rattle.sdb_desk.specs.Machine.{is_nonempty}

-- the keys whose log isn't empty, each once, by the bytes of the collection and then of the id
pub record IsKeyList (logs : Logs) (keys : List PlainKey) : Type 0 where
  pub in_order : IsStrictlySortedBy compare_keys keys
  pub whole : (k : PlainKey) → is_member keys_equal keys k ≡ is_nonempty (logs k)
