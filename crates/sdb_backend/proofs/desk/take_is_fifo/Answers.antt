use Rattle.sdb_oplog.specs.Keys.{plain_key}
use Rattle.sdb_backend.proofs.StepLemmas.{take_answer}
use Rattle.sdb_backend.proofs.desk.take_is_fifo.Goals as goal

pub returns-clause-entries : goal.returns-clause-entries
returns-clause-entries g c = take_answer (plain_key c.args.key.now) c.args.id c.args.max c.args.pass.now c.take.new.pass c.take.result c.take.ensures.call.step
