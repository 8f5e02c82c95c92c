-- Looks at the log of a key of a shard.
use Rattle.sdb_oplog.specs.Keys.{PlainKey}
use Rattle.sdb_desk.specs.ShardView.{logs_of}
use Rattle.sdb_desk.specs.Looks.{IsLook}
use Rattle.sdb_desk.specs.Machine.{PlainAttempt}
use Rattle.sdb_desk.specs.declared.shard.Shard.{Shard}

-- the attempt holds a look at the log of the key
abbrev pub IsSeen : PlainKey → Shard → PlainAttempt → Type 0
IsSeen k s a = IsLook (logs_of s k) a

-- each look at the log of the first key is a look at the log of the second key
abbrev pub StaySeen : PlainKey → Shard → PlainKey → Shard → Type 0
StaySeen k old j new = (a : PlainAttempt) → IsSeen k old a → IsSeen j new a
