-- The value of a map at each key, with a default.
use Rattle.std.specs.Prelude.{List, unwrap_or}
use Rattle.std.specs.Map.{lookup}
use Rattle.std.specs.BTreeMap.{is_at}
use Rattle.sdb_oplog.specs.Keys.{PlainKey, compare_keys, plain_key}
use Rattle.sdb_oplog.specs.declared.keys.Key.{Key}

abbrev pub value_at_key : {A : Type 0} → A → List (Key × A) → PlainKey → A
value_at_key none es q = unwrap_or (lookup (is_at (λ k. compare_keys q (plain_key k))) es) none
