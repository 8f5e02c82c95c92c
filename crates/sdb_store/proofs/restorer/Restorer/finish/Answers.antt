use Rattle.std.proofs.Common.{rules, sym, subst, arith}
use Rattle.sdb_dump.specs.StoreMachine.{IsIn}
use Rattle.sdb_backend.specs.laws.RestorationLaws.{pass_sees_logs}
use Rattle.sdb_store.specs.RestorerModel.{restorer_logs}
use Rattle.sdb_store.proofs.restorer.Restorer.finish.Goals as goal

pub into_backend-requires-clause-no_share : goal.into_backend-requires-clause-no_share
into_backend-requires-clause-no_share g c = λ n from. let next = c.in-Some.ensures.1 in c.requires.above n (omega (arith, next, from))

pub returns-clause-ok : goal.returns-clause-ok
returns-clause-ok g c =
    let made = c.in_ok-backend.ensures in
    record {
      host = made.host;
      highest = search rules;
      has_next = let e = made.has_next in let n = c.in-Some.ensures.1 in omega (arith, e, n);
      logs = made.logs;
      seen = λ p k line saw stored.
          let x = pass_sees_logs p c.in_ok-backend.host (restorer_logs c.args.self) saw made.logs k in
          record {
            history = x.0;
            entry = stored.entry;
            seen = x.1;
            stored = subst (IsIn stored.entry) (sym x.2) stored.stored;
            line_is = stored.line_is;
          };
    }
