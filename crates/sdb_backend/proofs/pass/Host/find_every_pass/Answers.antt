use Rattle.std.proofs.Common.{rules, map}
use Rattle.sdb_backend.specs.PassModel.{pass_number}
use Rattle.sdb_backend.proofs.SearchLemmas.{count_succ}
use Rattle.sdb_backend.proofs.pass.Host.find_every_pass.Goals as goal

pub loop-number-preserved : goal.loop-number-preserved
loop-number-preserved c =
    record {
      end = c.loop-number.invariant.end;
      found = count_succ c.loop-number.number (map pass_number c.args.passes.now) c.loop-number.invariant.found (search rules);
    }
