use Rattle.sdb_backend.proofs.StepLemmas.{in_one_step, step_adds}
use Rattle.sdb_backend.proofs.laws.submitted_in_one_step.Goals as goal

pub returns-clause-decides : goal.returns-clause-decides
returns-clause-decides c = λ k s now p q r h. in_one_step k s now p q r h

pub returns-clause-adds_entry : goal.returns-clause-adds_entry
returns-clause-adds_entry c = λ k s now p q r h by. step_adds k s now p q r (in_one_step k s now p q r h) by
