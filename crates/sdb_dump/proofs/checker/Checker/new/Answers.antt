use Rattle.std.proofs.Common.{refl, sym, ap, subst}
use Rattle.sdb_dump.specs.CheckerModel.{AreNotEmpty, logs_of_map}
use Rattle.sdb_dump.proofs.checker.Checker.new.Goals as goal

pub returns-clause-checks : goal.returns-clause-checks
returns-clause-checks c =
    let none = c.new.ensures.empty in
    record {
      logs = λ k. ap (λ es. logs_of_map es k) none;
      last = refl;
      filled = (subst AreNotEmpty (sym none) tt, tt);
      rest = λ k _. refl;
      fits = tt;
      counted = refl;
    }
