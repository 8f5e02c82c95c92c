use Rattle.sdb_client_model.proofs.SmallRunLemmas.{small_runs_are_in_range, next_decisions_are_in_range, next_entries_are_in_range}
use Rattle.sdb_client_model.proofs.laws.small_runs_are_in_range.Goals as goal

pub returns-clause-run : goal.returns-clause-run
returns-clause-run c = small_runs_are_in_range

pub returns-clause-decisions : goal.returns-clause-decisions
returns-clause-decisions c = next_decisions_are_in_range

pub returns-clause-entries : goal.returns-clause-entries
returns-clause-entries c = next_entries_are_in_range
