use Rattle.std.proofs.Common.{Some, option_map, ap, sym, ◌∙◌, subst}
use Rattle.sdb_oplog.specs.Keys.{plain_key}
use Rattle.sdb_desk.specs.Machine.{work_allocates}
use Rattle.sdb_steps.specs.LookInvariant.{attempt_in, HasLookAt}
use Rattle.sdb_steps.specs.StateView.{plain_open_attempt, session_state_of}
use Rattle.sdb_steps.specs.View.{plain_step_answer}
use Rattle.sdb_steps.proofs.CommitLemmas.{work_of_attempt}
use Rattle.sdb_steps.proofs.QueueStepLemmas.{work_turn}
use Rattle.sdb_steps.proofs.session_data.Session.work.Goals as goal

pub returns-clause-dispatches : goal.returns-clause-dispatches
returns-clause-dispatches c = λ i m q look.
    let t = c.in-Some.attempt in
    let had = sym c.take.ensures.value ∙ c.in-Some.is in
    let seen = subst (HasLookAt m.logs) had look in
    work_turn i m (session_state_of q c.args.self.now) (plain_open_attempt t) (plain_open_attempt c.work-answer.result.1) (work_allocates (attempt_in t.phase)) (plain_step_answer c.work-answer.result.0)
    (ap (option_map plain_open_attempt) had) (work_of_attempt m (plain_key t.key) t.phase t.tries seen) c.work-answer.ensures.works
