-- Keys, and logs by key.
use Rattle.std.specs.Prelude.{ℕ, ◌+◌, ◌%◌, List, [], Bool, cond, string_bytes}
use Rattle.std.specs.List.{sum}
use Rattle.std.specs.declared.cmp.Ordering.{Ordering}
use Rattle.std.specs.Ordering.{nat_cmp, is_eq, ordering_then}
use Rattle.std.specs.Cmp.Lexicographic.{slice_cmp}
use Rattle.sdb_oplog.specs.Plain.{PlainEntry}
use Rattle.sdb_oplog.specs.declared.keys.Key.{Key}

pub record PlainKey : Type 0 where
  pub collection : List ℕ
  pub id : List ℕ

abbrev pub plain_key : Key → PlainKey
plain_key k = record { collection = string_bytes k.collection; id = string_bytes k.id }

-- the order of keys: by the bytes of the collection, then of the id
abbrev pub compare_keys : PlainKey → PlainKey → Ordering
compare_keys a b = ordering_then (slice_cmp nat_cmp a.collection b.collection) (slice_cmp nat_cmp a.id b.id)

abbrev pub keys_equal : PlainKey → PlainKey → Bool
keys_equal a b = is_eq (compare_keys a b)

-- the number of a key's shard, from 0 to 7
abbrev pub shard_of : PlainKey → ℕ
shard_of k = (sum k.collection + sum k.id) % 8

-- a function of keys with its value at k replaced
abbrev pub with_value_at_key : {A : Type 0} → (PlainKey → A) → PlainKey → A → PlainKey → A
with_value_at_key f k x q = cond (keys_equal k q) x (f q)

-- an absent key has the empty log
abbrev pub Logs : Type 0
Logs = PlainKey → List PlainEntry

abbrev pub no_logs : Logs
no_logs q = []

abbrev pub with_log : Logs → PlainKey → List PlainEntry → Logs
with_log = with_value_at_key
