use Rattle.sdb_dump.proofs.StoreRunLemmas.{runs_are_durable, restarts_keep_sent}
use Rattle.sdb_dump.proofs.laws.store_runs_are_durable.Goals as goal

pub returns-clause-durable : goal.returns-clause-durable
returns-clause-durable c = runs_are_durable

pub returns-clause-restart : goal.returns-clause-restart
returns-clause-restart c = restarts_keep_sent
