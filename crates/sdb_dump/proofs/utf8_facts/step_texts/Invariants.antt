use Rattle.std.proofs.Common.{drop}
use Rattle.sdb_value.specs.View.{plain_path}
use Rattle.sdb_dump.specs.Utf8Facts.{AreTextSteps}
use Rattle.sdb_dump.proofs.utf8_facts.step_texts.Given as goal

abbrev pub invariant-loop-step : goal.invariant-loop-step
invariant-loop-step l = AreTextSteps (plain_path (drop l.step-index l.path)) → AreTextSteps (plain_path l.path)
