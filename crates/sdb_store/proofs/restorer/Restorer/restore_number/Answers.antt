use Rattle.sdb_store.proofs.RestoreLemmas.{memory_isnt_wrong}
use Rattle.sdb_store.proofs.restorer.Restorer.restore_number.Goals as goal

pub returns-in_err-number-clause-err : goal.returns-in_err-number-clause-err
returns-in_err-number-clause-err c = memory_isnt_wrong _ c.from_residual.result c.from_residual.ensures.1
