use Rattle.std.proofs.Common.{◌≡◌, ◌++◌, map}
use Rattle.sdb_oplog.specs.Keys.{plain_key}
use Rattle.sdb_desk.proofs.KeyListLemmas.{nonempty_keys}
use Rattle.sdb_desk.proofs.shard.Shard.documents.Given as goal

abbrev pub invariant-loop-key : goal.invariant-loop-key
invariant-loop-key l = map plain_key l.keys.items ++ nonempty_keys l.key-iterator ≡ nonempty_keys l.self.slots.entries
