use Rattle.std.proofs.Common.{◌≡◌, ◌||◌}
use Rattle.std.specs.Vec.Iter.{into_iter_items}
use Rattle.sdb_oplog.specs.Keys.{PlainKey}
use Rattle.sdb_backend.specs.GatheredKeys.{is_gathered}
use Rattle.sdb_backend.proofs.GatherLemmas.{has_own}
use Rattle.sdb_backend.proofs.audit_listing.gather_keys.Given as goal

abbrev pub invariant-loop-key : goal.invariant-loop-key
invariant-loop-key l = (k : PlainKey) →
    (is_gathered l.all k || has_own l.number (into_iter_items l.key-iterator) k) ≡
    (is_gathered l.initial.all k || has_own l.number (into_iter_items l.initial.key-iterator) k)
