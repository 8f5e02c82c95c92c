-- The number of open queues of all keys.
use Rattle.std.specs.Prelude.{◌≡◌, ℕ, ◌+◌, min, List, [], ◌∷◌, length, false}
use Rattle.std.specs.List.{IsDistinct}
use Rattle.std.specs.Set.{is_member}
use Rattle.sdb_oplog.specs.Keys.{PlainKey, keys_equal}
use Rattle.sdb_desk.specs.Machine.{QueuesByKey}

-- the number of open queues of these keys
abbrev pub open_count : QueuesByKey → List PlainKey → ℕ
open_count q [] = 0
open_count q (k ∷ ks) = length (q k).queues + open_count q ks

-- the number of open queues of all keys, at most the greatest u64; the keys with an open queue are among distinct keys
pub record IsOpenCount (q : QueuesByKey) (n : ℕ) : Type 0 where
  pub keys : List PlainKey
  pub distinct : IsDistinct keys_equal keys
  pub others : (k : PlainKey) → is_member keys_equal keys k ≡ false → (q k).queues ≡ []
  pub count_saturated : n ≡ min (open_count q keys) 18446744073709551615
