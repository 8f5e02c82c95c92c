use Rattle.std.proofs.Common.{◌≡◌, ◌++◌, ℕ, List, Some, [], sym, subst, append-nil}
use Rattle.std.specs.declared.option.Option.{Option}
use Rattle.sdb_lines.specs.Runs.{AppendsWhere, AnswersLine}
use Rattle.sdb_lines.specs.declared.line_handler.LineProgress.{LineProgress}
use Rattle.sdb_steps.specs.WorldView.{one_step_of_world, sessions_of}
use Rattle.sdb_steps.specs.Lines.{read_step, reading_step}
use Rattle.sdb_steps.specs.RunOutput.{StepWithoutAnswer}
use Rattle.sdb_steps.specs.View.{plain_session_step, plain_step_answer}
use Rattle.sdb_steps.specs.declared.world_dump.SilentRunner.{SilentRunner}
use Rattle.sdb_steps.proofs.DumpLemmas.{step_without_answer}
use Rattle.sdb_steps.proofs.world_dump.SilentRunnerLineHandler.handle.Goals as goal

pub returns-in_ok-check_allocated-in-Ok-clause-answer : goal.returns-in_ok-check_allocated-in-Ok-clause-answer
returns-in_ok-check_allocated-in-Ok-clause-answer c =
    let handles : SilentRunner → Option (List ℕ) → List ℕ → SilentRunner → Type 0 = λ w line answer v. StepWithoutAnswer (reading_step line) (one_step_of_world w.world) (sessions_of w.world) answer (one_step_of_world v.world) (sessions_of v.world) in
    let out = c.args._out.now.items in
    let before = c.args.self.now in
    let after : SilentRunner = record { world = c.step.new.self } in
    let P : LineProgress → Type 0 = λ x. AppendsWhere out out (λ bytes. AnswersLine handles (λ w line bytes v. ⊥) (λ w. w) x.is_done before (Some c.args.line.now) bytes after) in
    subst P (sym c.done.ensures) (
      [],
      sym (append-nil out),
      step_without_answer (read_step c.args.line.now) (plain_session_step c.in-Ok.step) (one_step_of_world before.world) (one_step_of_world c.step.new.self) (sessions_of before.world) (sessions_of c.step.new.self) (plain_step_answer c.step.result) c.in-Ok.ensures.ok c.in_ok-check_allocated-in-Ok.ensures.ok c.step.ensures.step,
    )
