use Rattle.sdb_oplog.proofs.RefusalCauseLemmas.{refusals_have_causes, refusals_have_causes_if_all_made}
use Rattle.sdb_oplog.proofs.laws.refusals_have_causes.Goals as goal

pub returns-clause-missed_made : goal.returns-clause-missed_made
returns-clause-missed_made c = refusals_have_causes

pub returns-clause-all_made : goal.returns-clause-all_made
returns-clause-all_made c = refusals_have_causes_if_all_made
