use Rattle.std.proofs.Common.{refl}
use Rattle.sdb_store.proofs.restorer.Restorer.new.Goals as goal

pub returns-clause-restorer : goal.returns-clause-restorer
returns-clause-restorer c = let none = c.in_ok-restoration.ensures.shares in record { zero = none 0; above = λ n lt. none n }

pub returns-clause-items : goal.returns-clause-items
returns-clause-items c = record { logs = λ i k. c.in_ok-restoration.ensures.logs k i; highest = refl }
