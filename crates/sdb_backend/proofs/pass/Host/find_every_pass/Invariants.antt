use Rattle.std.proofs.Common.{ℕ, ◌<◌, ◌≡◌, map, Contains}
use Rattle.sdb_backend.specs.PassModel.{pass_number, next_pass_number}
use Rattle.sdb_backend.proofs.pass.Host.find_every_pass.Given as goal

abbrev pub invariant-loop-number : goal.invariant-loop-number
invariant-loop-number l =
    record {
      end : l.number-end ≡ next_pass_number l.self;
      found : (k : ℕ) → 0 < k → k < l.number → Contains (map pass_number l.passes) k;
    }
