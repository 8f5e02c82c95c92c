use Rattle.std.proofs.Common.{sym, ap, ◌∙◌}
use Rattle.sdb_desk.specs.Machine.{work_allocates}
use Rattle.sdb_steps.proofs.attempt.work_phase.Goals as goal

pub returns-in-Err-clause-works : goal.returns-in-Err-clause-works
returns-in-Err-clause-works c = λ k n. (sym c.is_worked.ensures ∙ c.if-is_worked.false, c.in-Err.ensures.err k n, ap work_allocates (sym c.in-Err.ensures.kept) ∙ c.in-Err.ensures.memory.1)
