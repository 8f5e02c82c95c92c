-- The number of open queues of an audit.
use Rattle.std.specs.Prelude.{◌≡◌, ℕ, ◌+◌, min, List, [], ◌∷◌}
use Rattle.sdb_desk.specs.OpenQueues.{IsOpenCount}
use Rattle.sdb_desk.specs.ShardView.{queues_of}
use Rattle.sdb_backend.specs.declared.audit.Audit.{Audit}
use Rattle.sdb_backend.specs.declared.shard_value.Held.{Held}

-- the number of open queues of these shards, at most the greatest u64
abbrev pub IsOpenCountIn : List Held → ℕ → Type 0
IsOpenCountIn [] n = n ≡ 0
IsOpenCountIn (h ∷ hs) n =
    (a b : ℕ) × IsOpenCount (queues_of h.shard) a × IsOpenCountIn hs b × (n ≡ min (a + b) 18446744073709551615)

-- the number of open queues of the audit
abbrev pub IsOpenQueueCount : Audit → ℕ → Type 0
IsOpenQueueCount a = IsOpenCountIn a.shards.items
