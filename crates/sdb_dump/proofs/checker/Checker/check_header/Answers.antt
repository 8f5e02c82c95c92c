use Rattle.std.proofs.Common.{sym, ◌∙◌}
use Rattle.sdb_dump.proofs.StageLemmas.{head_taken}
use Rattle.sdb_dump.proofs.checker.Checker.check_header.Goals as goal

pub returns-then-is_header-clause-taken : goal.returns-then-is_header-clause-taken
returns-then-is_header-clause-taken c = λ s h. head_taken c.args.self.now s c.args.line.now c.requires.stage (sym c.is_header.ensures ∙ c.if-is_header.true) h
