use Rattle.std.proofs.Common.{subst}
use Rattle.std.specs.Option.{option_map}
use Rattle.sdb_oplog.specs.Keys.{plain_key}
use Rattle.sdb_steps.specs.StateView.{one_step_of_shard, plain_open_attempt}
use Rattle.sdb_steps.specs.Dispatch.{AttemptCommits}
use Rattle.sdb_steps.specs.View.{plain_step_answer}
use Rattle.sdb_steps.proofs.session_data.OpenAttempt.commit.Goals as goal

pub returns-in-Err-clause-commits : goal.returns-in-Err-clause-commits
returns-in-Err-clause-commits c =
    subst (λ a. AttemptCommits (one_step_of_shard c.args.shard.now) a c.args.now (plain_step_answer c.commit_unworked.result.0) (one_step_of_shard c.commit_unworked.new.shard) (option_map plain_open_attempt c.commit_unworked.result.1))
    (c.in-Err.ensures.err (plain_key c.args.self.key) c.args.self.tries) c.commit_unworked.ensures.commits
