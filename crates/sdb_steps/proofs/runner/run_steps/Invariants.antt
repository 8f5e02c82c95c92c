use Rattle.std.proofs.Common.{map, take}
use Rattle.sdb_desk.specs.ShardState.{AreCachesOf}
use Rattle.sdb_steps.specs.WorldView.{one_step_of_world, sessions_of, caches_of_world}
use Rattle.sdb_steps.specs.Runs.{IsRun}
use Rattle.sdb_steps.specs.View.{plain_session_step, plain_step_answer}
use Rattle.sdb_steps.proofs.runner.run_steps.Given as goal

abbrev pub invariant-loop-step : goal.invariant-loop-step
invariant-loop-step l = record {
  run : IsRun (map plain_session_step (take l.step-index l.steps)) (map plain_step_answer l.answers.items) (one_step_of_world l.world) (sessions_of l.world);
  cached : AreCachesOf (one_step_of_world l.world).logs (caches_of_world l.world);
}
