use Rattle.sdb_store.specs.RestorerModel.{IsRestorer}
use Rattle.sdb_server_cli.proofs.recover.restore_all.Given as goal

abbrev pub invariant-loop-line : goal.invariant-loop-line
invariant-loop-line l = IsRestorer l.restorer
