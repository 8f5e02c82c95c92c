use Rattle.std.proofs.Common.{option_map, ap, sym, ◌∙◌}
use Rattle.sdb_steps.specs.StateView.{one_step_of_shard, plain_open_attempt, session_state_of}
use Rattle.sdb_steps.specs.View.{plain_step_answer}
use Rattle.sdb_steps.proofs.QueueStepLemmas.{commit_turn}
use Rattle.sdb_steps.proofs.session_data.Session.commit.Goals as goal

pub returns-clause-dispatches : goal.returns-clause-dispatches
returns-clause-dispatches c = λ i q.
    commit_turn i (one_step_of_shard c.args.shard.now) (one_step_of_shard c.commit-answer.new.shard) (session_state_of q c.args.self.now) c.args.now (plain_open_attempt c.in-Some.attempt) (plain_step_answer c.commit-answer.result.0) (option_map plain_open_attempt c.commit-answer.result.1) (ap (option_map plain_open_attempt) (sym c.take.ensures.value ∙ c.in-Some.is))
    c.commit-answer.ensures.commits
