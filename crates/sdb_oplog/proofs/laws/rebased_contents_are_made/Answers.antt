use Rattle.sdb_oplog.proofs.RebasedContentLemmas.{rebased_made, submission_made}
use Rattle.sdb_oplog.proofs.laws.rebased_contents_are_made.Goals as goal

pub returns-clause-entries : goal.returns-clause-entries
returns-clause-entries c = rebased_made

pub returns-clause-submissions : goal.returns-clause-submissions
returns-clause-submissions c = submission_made
