-- Membership of a key in a set of keys.
use Rattle.std.specs.Prelude.{Bool, map}
use Rattle.std.specs.Set.{is_member}
use Rattle.std.specs.BTreeSet.{BTreeSet}
use Rattle.sdb_oplog.specs.Keys.{PlainKey, keys_equal, plain_key}
use Rattle.sdb_oplog.specs.declared.keys.Key.{Key}

abbrev pub is_gathered : BTreeSet Key → PlainKey → Bool
is_gathered all k = is_member keys_equal (map plain_key all.keys) k
