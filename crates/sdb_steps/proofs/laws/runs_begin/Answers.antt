use Rattle.std.proofs.Common.{[], refl}
use Rattle.sdb_steps.specs.OneStep.{empty_machine}
use Rattle.sdb_steps.specs.Picks.{empty_sessions}
use Rattle.sdb_steps.proofs.RunLemmas.{run_none}
use Rattle.sdb_steps.proofs.laws.runs_begin.Goals as goal

pub returns : goal.returns
returns c = run_none empty_machine empty_sessions [] refl refl refl
