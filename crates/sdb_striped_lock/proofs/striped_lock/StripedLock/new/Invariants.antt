use Rattle.std.proofs.Common.{◌≡◌, ℕ, ◌≤◌, length, vec_capacity}
use Rattle.sdb_growlock.specs.LockRule.{ForEach}
use Rattle.sdb_striped_lock.proofs.striped_lock.StripedLock.new.Given as goal

abbrev pub invariant-loop-index : goal.invariant-loop-index
invariant-loop-index g l =
    record {
      length : length l.values.items ≡ l._index;
      room : 8 ≤ vec_capacity l.values;
      blank : ForEach (λ v. (k : ℕ) → g.T.Grows.blank k v) l.values.items;
    }
